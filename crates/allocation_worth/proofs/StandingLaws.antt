-- What the steps of the slots say of the places that the fields stand at.
use mathlib.Core.Path.{◌≡◌, ap, ◌∙◌}
use mathlib.Core.List.{List}
use Prim.Native.Nat.{ℕ, ◌<◌}
use lib.Dec.{eqb}
use lib.ListN.{length, get_or}
use Rattle.tables.specs.Search.{place}
use Rattle.tables.proofs.Listed.{map_at}
use Rattle.tables.proofs.Search.{there}
use Rattle.bitalloc.specs.Tables.{row_of, steps_at, index_of}
use Rattle.bitalloc.proofs.RowLaws.{index_of_steps}
use Rattle.layout.specs.declared.Layout.{Layout}
use Rattle.layout.specs.declared.AllocationField.{AllocationField}
use Rattle.bitalloc.specs.Options.{or_zero}
use Rattle.layout.specs.Layout.{own, fields_of, field_in, field_steps}
use Rattle.layout.proofs.FieldLaws.{serves_first}
use Rattle.allocation_rounds.specs.Rounds.{place_in}
use Rattle.allocation_run.specs.Steps.{steps_of}
use Rattle.allocation_run.proofs.HeldLaws.{slot_steps}
use Rattle.allocation_worth.specs.Worth.{standing, places_from}

module _ (l : Layout) (places : List ℕ) (f : ℕ) (h : f < length (fields_of l)) where
  abbrev x : AllocationField
  x = field_in (fields_of l) f

  -- the steps that a field holds, and from them its place
  pub field_steps_lem : field_steps (steps_of l places) x ≡ get_or (row_of l.table x.subband) (place_in places f) 0
  field_steps_lem = slot_steps l places f h x.channel (serves_first l f h)

  pub stands_at : place_in places f < length (row_of l.table x.subband) → standing l.table (steps_of l places) x ≡ place_in places f
  unfolding index_of steps_at
  stands_at b =
      let row = row_of l.table x.subband in
      ap (λ (m : ℕ). or_zero (place (λ k. eqb k m) row)) field_steps_lem
      ∙ ap or_zero (index_of_steps l.table x.subband (place_in places f) (get_or row (place_in places f) 0) (there row (place_in places f) 0 b))

  pub places_back : place_in places f < length (row_of l.table x.subband) → place_in (places_from l (steps_of l places)) f ≡ place_in places f
  unfolding places_from
  places_back b = map_at (standing l.table (steps_of l places)) (fields_of l) f (own 0 0) 0 h ∙ stands_at b
