-- What the functions that print a multiplier find.
-- For the contracts of private functions alone: nothing that a caller has to believe stands here.
use Rattle.std.specs.Prelude.{ℕ, ◌≡◌, List, length}
use Rattle.side_rows.specs.Rows.{last_digits}

-- the last 15 digits of a number
pub record Spelled (n : ℕ) (r : List ℕ) : Type 0 where
  pub whole : r ≡ last_digits 15 n
  pub long : length r ≡ 15
