-- What the array of the active slots keeps to.
use Rattle.std.specs.Prelude.{ℕ, ◌≤◌, ◌<◌, ◌≡◌, List, length, get_or}

-- its entries are slots, and as many as a table carries are listed at most
pub record SlotsIn (slots : List ℕ) (count : ℕ) : Type 0 where
  pub long : length slots ≡ 64
  pub few : count ≤ 60
  pub below : (k : ℕ) → get_or slots k 0 < 64
