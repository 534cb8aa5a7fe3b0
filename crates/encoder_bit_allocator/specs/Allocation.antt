-- The allocation of a frame's bits.
use Rattle.std.specs.Prelude.{ℕ, ◌+◌, ◌≡◌, true, cond, List, [], ◌∷◌, ◌++◌, map, leb, eqb, Float, Result, Ok, Err}
use Rattle.header.specs.Questions.{Question, number}
use Rattle.header.specs.Header.{free_format}
use Rattle.layout.specs.declared.Layout.{Layout}
use Rattle.layout.specs.Layout.{fields_of}
use Rattle.audio_data.specs.declared.AudioData.{AudioData}
use Rattle.audio_data.specs.Record.{fresh, filler}
use Rattle.encoder_bit_budget.specs.declared.Request.{Request}
use Rattle.encoder_bit_budget.specs.declared.FixedBitBudget.{FixedBitBudget}
use Rattle.encoder_bit_budget.specs.declared.BitAllocError.{BitAllocError}
use Rattle.encoder_bit_budget.specs.declared.BitAllocError.TheVariants.{RateOffLadder, NoBitallocTable, ZeroSampleRate, InsufficientFrameSize}
use Rattle.encoder_bit_budget.specs.Budget.{header_asked, budget_of, layout_in, fixed_in, offered_in, offered_of, natural}
use Rattle.encoder_bit_demand.specs.Demand.{first_step}
use Rattle.allocation_run.specs.Steps.{run_of, steps_of}
use Rattle.allocation_worth.specs.Worth.{Worth}
use Rattle.encoder_bit_allocator.specs.declared.Allocation.{Allocation}

-- ---- the whole answer

-- an answer's number; the record with the steps, or the filler; the bits left; and with number 4 the bits of the frame, the fixed ones and the
-- caller's, which are 0 otherwise
pub record AllocationAnswer : Type 0 where
  pub number : ℕ
  pub audio : AudioData
  pub left : ℕ
  pub cb : ℕ
  pub fixed : ℕ
  pub banc : ℕ

-- question 4: the fixed bits and the caller's fit the frame, as whole numbers
abbrev pub bits_asked : FixedBitBudget → ℕ → Question ℕ
bits_asked b banc = record { yes = leb (fixed_in b + banc) b.cb; otherwise = 4 }

abbrev pub allocation_asked : Request → List (Question ℕ)
allocation_asked q = header_asked q.header ++ (bits_asked (budget_of q).budget q.banc ∷ [])

-- the worst case of scfsi and scalefactors as the first steps' costs
unfoldable pub worst_case : Layout → List ℕ
worst_case l = map first_step (fields_of l)

-- the record of an accepted allocation: the steps, and else what a fresh record has
abbrev pub with_steps : AudioData → List ℕ → AudioData
with_steps d steps = record {
  table = d.table;
  sblimit = d.sblimit;
  bound = d.bound;
  channels = d.channels;
  nb_steps = steps;
  scfsi = d.scfsi;
  scalefactor = d.scalefactor;
}

unfoldable pub accepted : Layout → List (List Float) → List ℕ → ℕ → AllocationAnswer
unfolding run_of steps_of
accepted l smr costs offered =
    let s = run_of l smr costs offered in
    record {
      number = 0;
      audio = with_steps (fresh l) (steps_of l s.places);
      left = s.left;
      cb = 0;
      fixed = 0;
      banc = 0;
    }

-- a refusal: the filler, and beside 4 the three numbers
abbrev pub refused : ℕ → AllocationAnswer
refused n = record { number = n; audio = filler; left = 0; cb = 0; fixed = 0; banc = 0 }

abbrev pub short : ℕ → ℕ → ℕ → AllocationAnswer
short cb fixed banc = record { number = 4; audio = filler; left = 0; cb = cb; fixed = fixed; banc = banc }

-- what the result of the function stands for
abbrev pub answer_in : Result Allocation BitAllocError → AllocationAnswer
answer_in (Ok a) = record { number = 0; audio = a.audio; left = a.left; cb = 0; fixed = 0; banc = 0 }
answer_in (Err (InsufficientFrameSize cb fixed banc)) = short cb fixed banc
answer_in (Err RateOffLadder) = refused 16
answer_in (Err NoBitallocTable) = refused 1
answer_in (Err ZeroSampleRate) = refused 2

-- the answer by its number, under the budget that was asked for
unfoldable pub allocation_in : FixedBitBudget → List (List Float) → ℕ → ℕ → AllocationAnswer
unfolding accepted worst_case
allocation_in b smr banc n =
    let l = layout_in b in
    cond (eqb n 0) (accepted l smr (worst_case l) (natural (offered_in b banc))) (cond (eqb n 4) (short b.cb (fixed_in b) banc) (refused n))

unfoldable pub allocation_of : Request → List (List Float) → AllocationAnswer
unfolding allocation_in
allocation_of q smr = allocation_in (budget_of q).budget smr q.banc (number (allocation_asked q))

-- the layout of a request that is accepted
abbrev pub layout_for : Request → Layout
layout_for q = layout_in (budget_of q).budget

-- ---- what `allocate_bits` promises

-- What an allocation promises. Where it accepts, question 4 has made the bits offered a difference that does not fall below 0. A frame in
-- free format counts as 0 bytes, 1 with padding: one that gets as far as question 4 is always answered 4.
pub record AllocationIs (q : Request) (smr : List (List Float)) (r : AllocationAnswer) : Type 0 where
  pub whole : r ≡ allocation_of q smr
  pub worth : r.number ≡ 0
      → Worth (layout_for q) smr (worst_case (layout_for q)) (natural (offered_of q)) r.audio.nb_steps r.left
  pub free : free_format q.header ≡ true → number (header_asked q.header) ≡ 0 → r.number ≡ 4
