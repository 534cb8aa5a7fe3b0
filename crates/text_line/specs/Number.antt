-- A whole number in decimal.
use Rattle.std.specs.Prelude.{ℕ, zero, suc, ◌+◌, ◌/◌, ◌%◌, cond, List, [], ◌∷◌, ◌++◌, ltb}

-- the digits of a number that has at most so many: the last one behind those of a tenth of it
unfoldable pub digits_of : ℕ → ℕ → List ℕ
digits_of zero n = []
digits_of (suc most) n = cond (ltb n 10) [] (digits_of most (n / 10)) ++ ((48 + n % 10) ∷ [])

-- a number of 64 bits has at most 20
abbrev pub number_text : ℕ → List ℕ
number_text n = digits_of 20 n
