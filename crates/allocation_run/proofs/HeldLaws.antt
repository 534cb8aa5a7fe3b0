-- From the places that the fields reach to the steps of the slots.
use Rattle.std.specs.Prelude.{None, Some}
use mathlib.Core.Path.{◌≡◌, sym, ap, ap₂, ◌∙◌}
use mathlib.Core.List.{List}
use Prim.Native.Nat.{ℕ, ◌+◌, ◌*◌, ◌/◌, ◌%◌, ◌≤◌, ◌<◌}
use native.Mathlib.Nat.{le_trans}
use native.Mathlib.Omega.{arith}
use lib.Dec.{T}
use lib.ListN.{length, get_or, get_or-eq_default}
use Rattle.tables.specs.Search.{one_of}
use Rattle.tables.proofs.Listed.{tabulated}
use Rattle.bitalloc.specs.Tables.{row_of}
use Rattle.bitalloc.specs.Storage.{row_of16}
use Rattle.bitalloc.proofs.RowLaws.{sblimit_small, places_small, row_number_lem}
use Rattle.layout.specs.declared.Layout.{Layout}
use Rattle.layout.specs.declared.AllocationField.{AllocationField}
use Rattle.layout.specs.Slots.{slot_of}
use Rattle.layout.specs.Layout.{served, fields_of, field_in, served_by}
use Rattle.layout.proofs.FieldLaws.{carried, channel_small, served_once}
use Rattle.allocation_rounds.specs.Rounds.{place_in}
use Rattle.allocation_run.specs.Steps.{steps_by, steps_held, steps_of}

module _ (l : Layout) (places : List ℕ) where
  -- what the table of steps has at a slot
  pub at_slot : (ch sb : ℕ) → ch < 2 → sb < 32 → get_or (steps_of l places) (slot_of ch sb) 0 ≡ steps_held l places ch sb
  unfolding steps_of
  at_slot ch sb c h =
      let q : (32 * ch + sb) / 32 ≡ ch = omega arith in
      let r : (32 * ch + sb) % 32 ≡ sb = omega arith in
      tabulated 64 (λ s. steps_held l places (s / 32) (s % 32)) (32 * ch + sb) 0 (omega arith) ∙ ap₂ (steps_held l places) q r

  module _ (f : ℕ) (h : f < length (fields_of l)) where
    abbrev x : AllocationField
    x = field_in (fields_of l) f

    -- the slots of a field have the steps at its place
    pub slot_steps : (ch : ℕ) → T (one_of (served x) ch)
        → get_or (steps_of l places) (slot_of ch x.subband) 0 ≡ get_or (row_of l.table x.subband) (place_in places f) 0
    slot_steps ch c =
        let low = carried l f h in
        at_slot ch x.subband (channel_small l f h ch c) (let z = sblimit_small l.table in omega arith)
        ∙ ap (steps_by l.table places x.subband) (served_once l f h ch c)

-- ---- what the code finds for a slot

pub steps_found_lem : (l : Layout) (places : List ℕ) (ch sb f : ℕ) (row : List ℕ) → served_by l ch sb ≡ Some f → place_in places f < 16 → row ≡ row_of16 l.table sb
    → get_or row (place_in places f) 0 ≡ steps_held l places ch sb
steps_found_lem l places ch sb f row e s r =
    row_number_lem l.table sb (place_in places f) row r s ∙ sym (ap (steps_by l.table places sb) e)

-- no row has a place above 15
pub steps_past : (l : Layout) (places : List ℕ) (ch sb f : ℕ) → served_by l ch sb ≡ Some f → 16 ≤ place_in places f → 0 ≡ steps_held l places ch sb
steps_past l places ch sb f e h =
    sym (get_or-eq_default (row_of l.table sb) 0 {n = place_in places f} (le_trans (places_small l.table sb) h)) ∙ sym (ap (steps_by l.table places sb) e)

pub steps_none : (l : Layout) (places : List ℕ) (ch sb : ℕ) → served_by l ch sb ≡ None → 0 ≡ steps_held l places ch sb
steps_none l places ch sb e = sym (ap (steps_by l.table places sb) e)
