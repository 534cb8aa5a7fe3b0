-- What the functions find on the way to the demand.
-- For the contracts of private functions alone: nothing that a caller has to believe stands here.
use Rattle.std.specs.Prelude.{ℕ, ◌+◌, ◌*◌, ◌≤◌, ◌≡◌, List, Float}
use Rattle.bitalloc.specs.declared.BitAllocTable.{BitAllocTable}
use Rattle.layout.specs.declared.Layout.{Layout}
use Rattle.layout.specs.declared.AllocationField.{AllocationField}
use Rattle.encoder_bit_demand.specs.Demand.{needed_bits, field_demand, layout_demand}

pub record NeededIs (row : List ℕ) (smr : Float) (first r : ℕ) : Type 0 where
  pub whole : r ≡ needed_bits row smr first
  pub most : r ≤ 576 + first

pub record FieldDemandIs (t : BitAllocTable) (smr : List (List Float)) (x : AllocationField) (r : ℕ) : Type 0 where
  pub whole : r ≡ field_demand t smr x
  pub most : r ≤ 616

pub record LayoutDemandIs (l : Layout) (smr : List (List Float)) (r : ℕ) : Type 0 where
  pub whole : r ≡ layout_demand l smr
  pub most : r ≤ 60 * 616
