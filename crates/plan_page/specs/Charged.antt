-- What the functions that add up a subband's bits promise.
-- For the contracts of private functions alone: nothing that a caller has to believe stands here.
use Rattle.std.specs.Prelude.{ℕ, ◌*◌, ◌≤◌, ◌≡◌, List}
use Rattle.layout.specs.declared.Layout.{Layout}
use Rattle.layout.specs.declared.AllocationField.{AllocationField}
use Rattle.plan_page.specs.Rows.{bits_in, subband_bits}

pub record BitsInAre (steps : List ℕ) (sb : ℕ) (x : AllocationField) (r : ℕ) : Type 0 where
  pub whole : r ≡ bits_in steps sb x
  pub most : r ≤ 616

pub record SubbandBitsAre (l : Layout) (steps : List ℕ) (sb r : ℕ) : Type 0 where
  pub whole : r ≡ subband_bits l steps sb
  pub most : r ≤ 60 * 616
