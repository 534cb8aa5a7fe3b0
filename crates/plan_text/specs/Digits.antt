-- Numbers in decimal digits.
use Rattle.std.specs.Prelude.{ℕ, ◌+◌, ◌-◌, ◌*◌, ◌^◌, Bool, true, cond, ◌&&◌, List, [], ◌∷◌, leb, length, Option, Some, None}

-- a byte from '0' to '9'
abbrev pub digit : ℕ → Bool
digit b = leb 48 b && leb b 57

-- whether every byte is a digit
abbrev pub digits : List ℕ → Bool
digits [] = true
digits (b ∷ bs) = digit b && digits bs

-- the number that digits spell
abbrev pub numeral : List ℕ → ℕ
numeral [] = 0
numeral (b ∷ bs) = (b - 48) * 10 ^ length bs + numeral bs

-- the number of a text of digits, where it is at most `most`; no digits at all count as 0
unfoldable pub number_to : ℕ → List ℕ → Option ℕ
number_to most bs = cond (digits bs && leb (numeral bs) most) (Some (numeral bs)) None
