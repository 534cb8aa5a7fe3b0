-- A number that may be missing.
use Rattle.std.specs.Prelude.{ℕ, Option, None, Some}

-- the number, and 0 where there is none
abbrev pub or_zero : Option ℕ → ℕ
or_zero None = 0
or_zero (Some n) = n
