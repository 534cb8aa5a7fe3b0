-- What the code's tests say: whether a field is closed.
use mathlib.Core.Path.{◌≡◌, refl}
use mathlib.Core.Bool.{Bool, false}
use mathlib.Core.List.{List, [], ◌∷◌}
use Prim.Native.Nat.{ℕ, zero, suc, ◌<◌}
use native.Mathlib.Nat.{not-suc-le-zero, le_of_suc-le-suc}
use lib.ListN.{length, get_or}
use Rattle.allocation_rounds.specs.Rounds.{closed_in}

-- a flag that the list has
pub flag : (closed : List Bool) (f : ℕ) → f < length closed → get_or closed f false ≡ closed_in closed f
flag [] f l = absurd (not-suc-le-zero l)
flag (b ∷ closed) zero l = refl
flag (b ∷ closed) (suc f) l = flag closed f (le_of_suc-le-suc l)
