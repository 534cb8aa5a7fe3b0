-- The multipliers of Table 3-B.1 descend: at a larger index stands a smaller multiplier.
use Prim.Native.Nat.{ℕ, ◌<◌}
use mathlib.Core.Bool.{Bool}
use lib.Dec.{T}
use lib.ListN.{length, get_or}
use lib.Ieee.{Float, nan, lt}
use Rattle.tables.specs.Scalefactors.{scalefactors}
use Rattle.tables.proofs.Rule.{ordered, ordered_at}

above : Float → Float → Bool
above x y = lt y x

computed : T (ordered above scalefactors)
unfolding scalefactors above lt
computed = tt

pub descends : (i j : ℕ) → i < j → j < length scalefactors → T (lt (get_or scalefactors j nan) (get_or scalefactors i nan))
unfolding above
descends = ordered_at above scalefactors nan computed
