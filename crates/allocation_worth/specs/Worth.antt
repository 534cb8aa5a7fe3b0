-- What the steps that the rounds end at are worth, said of the steps and of the bits left.
use Rattle.std.specs.Prelude.{ℕ, ◌<◌, ◌≡◌, false, List, map, T, eqb, Float, length, get_or, None}
use Rattle.std.specs.Float.Ieee.{is_nan}
use Rattle.tables.specs.Search.{place, one_of}
use Rattle.bitalloc.specs.declared.BitAllocTable.{BitAllocTable}
use Rattle.bitalloc.specs.Options.{or_zero}
use Rattle.bitalloc.specs.Tables.{row_of}
use Rattle.layout.specs.declared.Layout.{Layout}
use Rattle.layout.specs.declared.AllocationField.{AllocationField}
use Rattle.layout.specs.Slots.{slot_of}
use Rattle.layout.specs.Layout.{served, fields_of, field_in, field_steps, served_by}
use Rattle.encoder_bit_demand.specs.Demand.{smr_at}
use Rattle.allocation_rounds.specs.Rounds.{place_in}
use Rattle.allocation_rounds.specs.Promises.{Over, Accounted, Spent, Exchanged}
use Rattle.allocation_run.specs.Entries.{rules_of, entries_of}
use Rattle.allocation_run.specs.Steps.{run_of, steps_of}

-- a field stands at the place of its steps in its row
abbrev pub standing : BitAllocTable → List ℕ → AllocationField → ℕ
standing t steps x = or_zero (place (λ n. eqb n (field_steps steps x)) (row_of t x.subband))

unfoldable pub places_from : Layout → List ℕ → List ℕ
places_from l steps = map (standing l.table steps) (fields_of l)

-- no ratio that is read is a NaN
abbrev pub NoNan : List AllocationField → List (List Float) → Type 0
NoNan fields smr =
    (f ch : ℕ) → f < length fields → T (one_of (served (field_in fields f)) ch) → is_nan (smr_at smr ch (field_in fields f).subband) ≡ false

-- The five parts, whatever the first steps cost: the rounds end there; charged and left make up what was offered; no affordable step is
-- untaken; the exchange rule; and the steps lie where the fields are. The places in 2 to 4 are read off the steps; `in_row` says that they are
-- the places of the steps.
pub record Worth (l : Layout) (smr : List (List Float)) (costs : List ℕ) (offered : ℕ) (steps : List ℕ) (left : ℕ) : Type 0 where
  -- 1
  pub ends : steps ≡ steps_of l (run_of l smr costs offered).places
  pub leaves : left ≡ (run_of l smr costs offered).left
  pub over : Over (rules_of (entries_of l smr costs)) (run_of l smr costs offered)
  -- 2
  pub accounted : Accounted (rules_of (entries_of l smr costs)) offered (places_from l steps) left
  -- 3
  pub spent : Spent (rules_of (entries_of l smr costs)) (places_from l steps) left
  -- 4
  pub exchanged : NoNan (fields_of l) smr → Exchanged (rules_of (entries_of l smr costs)) (places_from l steps) left
  -- 5; scfsi and scalefactor indices are the filler by `accepted`
  pub in_row : (f : ℕ) → f < length (fields_of l)
      → get_or (row_of l.table (field_in (fields_of l) f).subband) (place_in (places_from l steps) f) 0 ≡ field_steps steps (field_in (fields_of l) f)
  pub both : (f ch : ℕ) → f < length (fields_of l) → T (one_of (served (field_in (fields_of l) f)) ch)
      → get_or steps (slot_of ch (field_in (fields_of l) f).subband) 0 ≡ field_steps steps (field_in (fields_of l) f)
  pub elsewhere : (ch sb : ℕ) → ch < 2 → sb < 32 → served_by l ch sb ≡ None → get_or steps (slot_of ch sb) 0 ≡ 0
