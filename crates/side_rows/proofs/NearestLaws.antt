-- The digits of a row are those of the multipliers: each multiplier of `tables::scalefactors` is the binary64 value nearest to what is shown for its index.
use mathlib.Core.Path.{◌≡◌, refl}
use mathlib.Core.List.{List, [], ◌∷◌, map}
use Prim.Native.Nat.{ℕ, zero, suc, ◌<◌}
use native.Mathlib.Omega.{arith}
use lib.Ieee.{Float}
use lib.ListN.{length, get_or}
use Rattle.tables.specs.Decimal.{decimal}
use Rattle.tables.specs.Scalefactors.{printed, scalefactors}

nearest : (xs : List ℕ) (i : ℕ) (z : Float) → i < length xs → get_or (map (decimal 14) xs) i z ≡ decimal 14 (get_or xs i 0)
nearest [] i z h = absurd (omega arith)
nearest (x ∷ xs) zero z h = refl
nearest (x ∷ xs) (suc i) z h = nearest xs i z (omega arith)

pub multiplier_nearest : (index : ℕ) (z : Float) → index < 63 → get_or scalefactors index z ≡ decimal 14 (get_or printed index 0)
unfolding scalefactors printed
multiplier_nearest index z h = nearest printed index z h
