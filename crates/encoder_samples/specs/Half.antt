-- Half of the patterns that a sample of a class has, in 32 bits.
-- For the contracts of private functions alone: nothing that a caller has to believe stands here.
use Rattle.std.specs.Prelude.{◌≡◌, ℕ, ◌^◌, ◌≤◌}
use Rattle.encoder_samples.specs.Samples.{half}

pub record HalfIs (steps r : ℕ) : Type 0 where
  pub whole : r ≡ half steps
  pub least : 1 ≤ r
  pub most : r ≤ 2 ^ 31
