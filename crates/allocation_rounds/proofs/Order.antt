-- What the rounds need of the order of binary64, off NaN: `le` is total and transitive, and `lt` is its negation turned round.
use mathlib.Core.Path.{◌≡◌, refl, sym, subst}
use mathlib.Core.Bool.{Bool, true, false, not}
use lib.Dec.{T, T_not, not_T}
use lib.Ieee.{Float, le, lt, is_nan}

pub record Order : Type 0 where
  pub total : (x y : Float) → is_nan x ≡ false → is_nan y ≡ false → le x y ≡ false → T (le y x)
  pub transitive : (x y z : Float) → is_nan x ≡ false → is_nan y ≡ false → is_nan z ≡ false → T (le x y) → T (le y z) → T (le x z)
  pub strict : (x y : Float) → is_nan x ≡ false → is_nan y ≡ false → lt x y ≡ not (le y x)

module _ (O : Order) where
  pub reflexive : (x : Float) → is_nan x ≡ false → T (le x x)
  reflexive x h = go (le x x) refl
    where
      go : (b : Bool) → le x x ≡ b → T b
      go true e = tt
      go false e = subst T e (O.total x x h h e)

  -- below and not below
  pub not_both : (x y : Float) → is_nan x ≡ false → is_nan y ≡ false → T (lt x y) → T (le y x) → ⊥
  not_both x y h k l m = T_not (le y x) (subst T (O.strict x y h k) l) m

  -- what is at most a smaller one is smaller
  pub below_trans : (x y z : Float) → is_nan x ≡ false → is_nan y ≡ false → is_nan z ≡ false → T (le x y) → T (lt y z) → T (lt x z)
  below_trans x y z h k m l b =
      subst T (sym (O.strict x z h m)) (not_T (le z x) (λ n. not_both y z k m b (O.transitive z x y m h k n l)))
