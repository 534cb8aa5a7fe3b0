-- What the rounds of the allocation read of a frame's fields, and the rules that they go by.
use Rattle.std.specs.Prelude.{ℕ, ◌+◌, ◌-◌, ◌≤◌, ◌≡◌, cond, List, [], ◌∷◌, map, eqb, Float, length, get_or}
use Rattle.std.specs.Float.{nan, binary64}
use Rattle.std.specs.Float.Ieee.{neg, sub}
use Rattle.tables.specs.Listed.{tabulate}
use Rattle.ieee_order.specs.Order.{min_of}
use Rattle.bitalloc.specs.declared.BitAllocTable.{BitAllocTable}
use Rattle.bitalloc.specs.Tables.{row_of}
use Rattle.quantization.specs.Classes.{sample_bits}
use Rattle.layout.specs.declared.Layout.{Layout}
use Rattle.layout.specs.declared.AllocationField.{AllocationField}
use Rattle.layout.specs.Layout.{fields_of, field_in}
use Rattle.encoder_bit_demand.specs.Snr.{snr}
use Rattle.encoder_bit_demand.specs.Demand.{smrs_of}
use Rattle.allocation_rounds.specs.Rounds.{Rules}

-- of a field: the steps at the places of its row, the signal-to-mask ratios of the channels that it serves, and the bits that its first step
-- costs besides its samples, any whole number
pub record Entry : Type 0 where
  pub row : List ℕ
  pub smr : List Float
  pub first : ℕ

-- a slot's mask-to-noise ratio: minus SMR before its first step, then SNR minus SMR, in one rounding
abbrev pub slot_mnr : ℕ → Float → Float
slot_mnr steps smr = cond (eqb steps 0) (neg smr) (sub binary64 (snr steps) smr)

-- the smaller of the ratios of the channels served; a NaN beside a number yields the number
abbrev pub least : List Float → Float
least [] = nan  -- no field serves none
least (r ∷ []) = r
least (r ∷ s ∷ rs) = min_of r (least (s ∷ rs))

-- a field's mask-to-noise ratio with these steps, and at a place
abbrev pub mnr_of : List Float → ℕ → Float
mnr_of smr steps = least (map (slot_mnr steps) smr)

abbrev pub mnr_at : Entry → ℕ → Float
mnr_at e p = mnr_of e.smr (get_or e.row p 0)

-- The bits charged for a field with these steps: its samples once, even if it serves two channels, and what the first step costs besides.
-- So the price of a step is the difference of the sample bits, and on the first step that cost.
abbrev pub charge : ℕ → ℕ → ℕ
charge steps first = cond (eqb steps 0) 0 (sample_bits steps + first)

abbrev pub charge_at : Entry → ℕ → ℕ
charge_at e p = charge (get_or e.row p 0) e.first

abbrev pub entry_in : List Entry → ℕ → Entry
entry_in es f = get_or es f (record { row = []; smr = []; first = 0 })

-- the rules of a list of fields; the top place is the row's last
unfoldable pub rules_of : List Entry → Rules
rules_of es = record {
  fields = length es;
  top = λ f. length (entry_in es f).row - 1;
  mnr = λ f p. mnr_at (entry_in es f) p;
  charge = λ f p. charge_at (entry_in es f) p;
}

-- a field as an entry
abbrev pub entry_of : BitAllocTable → List (List Float) → AllocationField → ℕ → Entry
entry_of t smr x first = record { row = row_of t x.subband; smr = smrs_of smr x; first = first }

-- the fields of a layout, where `costs` has what the first step of each costs besides its samples
unfoldable pub entries_of : Layout → List (List Float) → List ℕ → List Entry
entries_of l smr costs =
    tabulate (length (fields_of l)) (λ f. entry_of l.table smr (field_in (fields_of l) f) (get_or costs f 0))

-- ---- what a function promises

pub record ChargeIs (steps first r : ℕ) : Type 0 where
  pub whole : r ≡ charge steps first
  pub most : r ≤ 576 + first
