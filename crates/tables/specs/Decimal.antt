-- A number as the standards print it, in decimal digits.
use Rattle.std.specs.Prelude.{ℕ, ◌^◌, false, Float}
use Rattle.std.specs.Float.{binary64}
use Rattle.std.specs.Float.Ieee.{round}

-- the binary64 value nearest to digits / 10 ^ places
unfoldable pub decimal : ℕ → ℕ → Float
unfolding round
decimal places digits = round binary64 false digits (10 ^ places)
