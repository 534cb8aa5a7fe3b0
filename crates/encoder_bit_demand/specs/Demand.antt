-- The demand: the data bits with which every field has a mask-to-noise ratio of at least 0, or stands at its top place (ISO/IEC 11172-3
-- Annex G.1, required bit rate).
use Rattle.std.specs.Prelude.{ℕ, ◌+◌, ◌-◌, ◌*◌, ◌≤◌, ◌≡◌, false, cond, List, [], ◌∷◌, map, eqb, Float, pos, length, get_or, drop, Option, None, Some, Result, Ok, Err}
use Rattle.std.specs.Float.{nan, fin}
use Rattle.std.specs.Float.Ieee.{le}
use Rattle.ieee_order.specs.Order.{max_of}
use Rattle.header.specs.declared.FrameHeader.{FrameHeader}
use Rattle.bitalloc.specs.declared.BitAllocTable.{BitAllocTable}
use Rattle.bitalloc.specs.Tables.{row_of}
use Rattle.quantization.specs.Classes.{sample_bits}
use Rattle.tables.specs.Search.{find}
use Rattle.layout.specs.declared.Layout.{Layout}
use Rattle.layout.specs.declared.AllocationField.{AllocationField}
use Rattle.layout.specs.Layout.{served, fields_of, sum_over}
use Rattle.encoder_bit_demand.specs.Snr.{snr}
use Rattle.encoder_bit_budget.specs.declared.BitAllocError.{BitAllocError}
use Rattle.encoder_bit_budget.specs.Budget.{BudgetAnswer, plain, error_number, budget_of, layout_in}

-- The signal-to-mask ratios are two rows of 32, in dB; a slot's is at its channel and subband.
abbrev pub smr_at : List (List Float) → ℕ → ℕ → Float
smr_at smr ch sb = get_or (get_or smr ch []) sb nan

-- the ratios of the channels that a field serves
abbrev pub smrs_of : List (List Float) → AllocationField → List Float
smrs_of smr x = map (λ ch. smr_at smr ch x.subband) (served x)

-- the bits that a field's first step costs besides its samples: scfsi (2) and three scalefactors (18) for each channel that it serves
abbrev pub first_step : AllocationField → ℕ
first_step x = 20 * length (served x)

-- the larger of the ratios of the channels that a field serves; a NaN beside a number yields the number
abbrev pub largest_smr : List Float → Float
largest_smr [] = nan  -- no field serves none
largest_smr (r ∷ []) = r
largest_smr (r ∷ s ∷ rs) = max_of r (largest_smr (s ∷ rs))

-- the steps that a ratio needs: the first place of the row above 0 whose SNR is at least the ratio, or the top place
abbrev pub or_top : List ℕ → Option ℕ → ℕ
or_top row None = get_or row (length row - 1) 0
or_top row (Some n) = n

unfoldable pub needed_steps : List ℕ → Float → ℕ
needed_steps row r = or_top row (find (λ n. le r (snr n)) (drop 1 row))

-- a field's demand: nothing where the ratio is at most 0
unfoldable pub needed_bits : List ℕ → Float → ℕ → ℕ
unfolding needed_steps
needed_bits row r first = cond (le r (fin false 0 (pos 0))) 0 (sample_bits (needed_steps row r) + first)

abbrev pub field_demand : BitAllocTable → List (List Float) → AllocationField → ℕ
field_demand t smr x = needed_bits (row_of t x.subband) (largest_smr (smrs_of smr x)) (first_step x)

-- the sum over the fields
unfoldable pub layout_demand : Layout → List (List Float) → ℕ
unfolding needed_bits
layout_demand l smr = sum_over (field_demand l.table smr) (fields_of l)

-- the answer of `demand_bits`: its number, and the bits, which are 0 where the header is refused
pub record Demanded : Type 0 where
  pub answer : ℕ
  pub bits : ℕ

-- what the answer stands for
abbrev pub demand_in : Result ℕ BitAllocError → Demanded
demand_in (Ok n) = record { answer = 0; bits = n }
demand_in (Err e) = record { answer = error_number e; bits = 0 }

-- from the budget's answer
abbrev pub demand_by : List (List Float) → BudgetAnswer → Demanded
demand_by smr a = record { answer = a.answer; bits = cond (eqb a.answer 0) (layout_demand (layout_in a.budget) smr) 0 }

unfoldable pub demand_of : FrameHeader → List (List Float) → Demanded
unfolding layout_demand budget_of
demand_of h smr = demand_by smr (budget_of (plain h 0))

-- ---- what the functions promise

-- besides the whole answer a bound: 60 fields at most, of 576 bits of samples and 40 for the first step
pub record DemandIs (h : FrameHeader) (smr : List (List Float)) (r : Result ℕ BitAllocError) : Type 0 where
  pub whole : demand_in r ≡ demand_of h smr
  pub small : (demand_in r).bits ≤ 60 * 616

pub record FirstStepIs (x : AllocationField) (r : ℕ) : Type 0 where
  pub whole : r ≡ first_step x
  pub most : r ≤ 40
