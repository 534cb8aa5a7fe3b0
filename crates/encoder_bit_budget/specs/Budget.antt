-- The bits of a frame before any is spent on samples: ISO/IEC 11172-3 C.1.5.2.7, cb, bhdr, bcrc and bbal.
use Rattle.std.specs.Prelude.{ℕ, zero, suc, ◌+◌, ◌*◌, ◌≤◌, ◌≡◌, Bool, cond, List, [], ◌∷◌, leb, eqb, ℤ, pos, negsuc, Option, None, Some, is_some, Result, Ok, Err}
use Rattle.std.specs.Float.Ieee.{minus}
use Rattle.header.specs.declared.FrameHeader.{FrameHeader}
use Rattle.header.specs.Questions.{Question, number}
use Rattle.header.specs.Header.{frame_bytes, sample_rate_asked}
use Rattle.ladder.specs.Ladder.{on_ladder}
use Rattle.bitalloc.specs.declared.BitAllocTable.{BitAllocTable}
use Rattle.bitalloc.specs.declared.BitAllocTable.TheVariants.{B2a}
use Rattle.bitalloc.specs.Tables.{nbal_of}
use Rattle.table_selection.specs.Select.{table_of}
use Rattle.layout.specs.declared.Layout.{Layout}
use Rattle.layout.specs.Layout.{layout_of, limit_of, fields_of, sum_over}
use Rattle.encoder_bit_budget.specs.declared.Request.{Request}
use Rattle.encoder_bit_budget.specs.declared.FixedBitBudget.{FixedBitBudget}
use Rattle.encoder_bit_budget.specs.declared.BitAllocError.{BitAllocError}
use Rattle.encoder_bit_budget.specs.declared.BitAllocError.TheVariants.{RateOffLadder, NoBitallocTable, ZeroSampleRate, InsufficientFrameSize}

-- ---- what is asked

-- a header and the caller's ancillary bits
abbrev pub plain : FrameHeader → ℕ → Request
plain h banc = record { header = h; banc = banc }

-- question 16, which is asked first: the bit rate is on the header's ladder
abbrev pub bit_rate_asked : FrameHeader → Question ℕ
bit_rate_asked h = record { yes = on_ladder h; otherwise = 16 }

-- question 1: a table is selected
abbrev pub table_asked : FrameHeader → Question ℕ
table_asked h = record { yes = is_some (table_of h); otherwise = 1 }

-- question 3: the frame's bits fit 32 bits, as they do wherever question 16 is answered yes
abbrev pub size_asked : FrameHeader → Question ℕ
size_asked h = record { yes = leb (frame_bytes h) 536_870_911; otherwise = 3 }

-- the questions that every entry with a header asks first, but for `frame_size_bytes`, `select_table` and `bitrate_per_channel_kbps`
unfoldable pub header_asked : FrameHeader → List (Question ℕ)
header_asked h = bit_rate_asked h ∷ table_asked h ∷ sample_rate_asked h ∷ size_asked h ∷ []

-- the numbers of their refusals; 3 is never given
abbrev pub error_number : BitAllocError → ℕ
error_number RateOffLadder = 16
error_number NoBitallocTable = 1
error_number ZeroSampleRate = 2
error_number (InsufficientFrameSize cb fixed banc) = 4

-- ---- the budget of an accepted header

-- cb: the bits of the frame
abbrev pub cb_of : Request → ℕ
cb_of q = 8 * frame_bytes q.header

-- the CRC's bits: protection_bit false says that it is there
abbrev pub crc_bits : Bool → ℕ
crc_bits protection-bit = cond protection-bit 0 16

-- the bits of the allocation fields
unfoldable pub allocation_bits : Layout → ℕ
allocation_bits l = sum_over (λ x. nbal_of l.table x.subband) (fields_of l)

unfoldable pub budget_with : ℕ → ℕ → Layout → FixedBitBudget
unfolding allocation_bits
budget_with cb bcrc l = record {
  cb = cb;
  bhdr = 32;
  bcrc = bcrc;
  bbal = allocation_bits l;
  sblimit = limit_of l;
  bound = l.bound;
  channels = l.channels;
  table = l.table;
}

unfoldable pub budget_under : Request → BitAllocTable → FixedBitBudget
unfolding budget_with
budget_under q t = budget_with (cb_of q) (crc_bits q.header.protection_bit) (layout_of q.header t)

-- the layout that a budget is of
abbrev pub layout_in : FixedBitBudget → Layout
layout_in b = record { table = b.table; bound = b.bound; channels = b.channels }

-- the header, the CRC and the allocation fields
abbrev pub fixed_in : FixedBitBudget → ℕ
fixed_in b = b.bhdr + b.bcrc + b.bbal

-- a refused budget: table B2a, and 0 for all else
abbrev pub no_budget : FixedBitBudget
no_budget = record { cb = 0; bhdr = 0; bcrc = 0; bbal = 0; sblimit = 0; bound = 0; channels = 0; table = B2a }

-- ---- the whole answer

pub record BudgetAnswer : Type 0 where
  pub answer : ℕ
  pub budget : FixedBitBudget

-- what the answer stands for: a refusal has its number and the filler
abbrev pub budget_in : Result FixedBitBudget BitAllocError → BudgetAnswer
budget_in (Ok b) = record { answer = 0; budget = b }
budget_in (Err e) = record { answer = error_number e; budget = no_budget }

-- under a number, the budget with the table that was selected
abbrev pub accepted_under : Request → ℕ → Option BitAllocTable → FixedBitBudget
accepted_under q zero (Some t) = budget_under q t
accepted_under q zero None = no_budget  -- question 1 has asked for a table
accepted_under q (suc n) o = no_budget

unfoldable pub budget_of : Request → BudgetAnswer
unfolding budget_under header_asked
budget_of q =
    let n = number (header_asked q.header) in
    record { answer = n; budget = accepted_under q n (table_of q.header) }

-- ---- what is offered

-- offered, the clause's adb before any field has steps: the frame's bits less the fixed ones and the caller's ancillary bits, as a signed
-- number
abbrev pub offered_in : FixedBitBudget → ℕ → ℤ
offered_in b banc = minus b.cb (fixed_in b + banc)

-- what is offered to a request whose header is accepted
abbrev pub offered_of : Request → ℤ
offered_of q = offered_in (budget_of q).budget q.banc

-- the answer of `available_data_bits`: its number, and the bits, which are 0 where the header is refused
pub record Available : Type 0 where
  pub answer : ℕ
  pub bits : ℤ

-- what the answer stands for
abbrev pub available_in : Result ℤ BitAllocError → Available
available_in (Ok z) = record { answer = 0; bits = z }
available_in (Err e) = record { answer = error_number e; bits = pos 0 }

-- from the budget's answer
unfoldable pub available_by : ℕ → BudgetAnswer → Available
available_by banc a = record { answer = a.answer; bits = cond (eqb a.answer 0) (offered_in a.budget banc) (pos 0) }

unfoldable pub available_of : Request → Available
unfolding available_by budget_of
available_of q = available_by q.banc (budget_of q)

-- the bits offered as a whole number; 0 where they fall below 0, which question 4 refuses
abbrev pub natural : ℤ → ℕ
natural (pos n) = n
natural (negsuc n) = 0

-- ---- what the functions promise

-- an accepted budget besides: the bounds that callers add with
pub record Bounded (b : FixedBitBudget) : Type 0 where
  pub fixed : fixed_in b ≤ 236
  pub sblimit : b.sblimit ≤ 30
  pub bound : b.bound ≤ b.sblimit
  pub channels : b.channels ≤ 2

pub record BudgetIs (q : Request) (r : Result FixedBitBudget BitAllocError) : Type 0 where
  pub whole : budget_in r ≡ budget_of q
  pub bounded : (b : FixedBitBudget) → r ≡ Ok b → Bounded b
