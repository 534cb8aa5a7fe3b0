-- The sum of numbers given one by one.
use Rattle.std.specs.Prelude.{ℕ, zero, suc, ◌+◌}

-- f at 0, 1, .. n - 1, added up
abbrev pub sum_below : ℕ → (ℕ → ℕ) → ℕ
sum_below zero f = 0
sum_below (suc n) f = sum_below n f + f n
