-- The order of binary64: `le` and `lt` on numbers, that is off NaN. Finite values go by their fractions, infinities by clauses.
use mathlib.Core.Path.{◌≡◌, refl, sym, ◌∙◌, subst}
use mathlib.Core.Bool.{Bool, true, false, not, ◌&&◌, true≢false, false≢true}
use mathlib.Core.Logic.{⊎_elim}
use Prim.Native.Nat.{ℕ, ◌+◌, ◌*◌}
use native.Mathlib.Nat.{le_refl, le_of_mul-le-mul_right, mul-le-mul_right}
use native.Mathlib.Omega.{arith}
use lib.Dec.{T, eqb, eqb_refl, T_not, not_T}
use lib.Ieee.{Float, nan, inf, fin, up, down, neg, lt, eq, le, is_nan}
use lib.Ieee.Bits.{is_true}
use lib.Ieee.Fits.{and_i}
use lib.Ieee.Scale.{finite}
use lib.Ieee.Positive.{den, den_pos}
use Rattle.ieee_order.proofs.Fraction.{hi_not, lo_not, hi_of, lo_of, or_l, lt_or_ge, lt→less, less→lt, le→most, most→le}

-- ---- tests as facts

opposite : (a b : Bool) → (T a → T b → ⊥) → ((T a → ⊥) → (T b → ⊥) → ⊥) → a ≡ not b
opposite true true f g = absurd (f tt tt)
opposite true false f g = refl
opposite false true f g = refl
opposite false false f g = absurd (g (λ t. t) (λ t. t))

pub finite_number : (x : Float) → T (finite x) → is_nan x ≡ false
unfolding is_nan
finite_number nan p = absurd p
finite_number (inf s) p = absurd p
finite_number (fin s m e) p = refl

-- ---- `le` says that neither is a NaN

pub le_numbers : (x y : Float) → T (le x y) → (is_nan x ≡ false) × (is_nan y ≡ false)
unfolding le is_nan
le_numbers nan y h = absurd h
le_numbers (inf s) nan h = absurd h
le_numbers (inf s) (inf t) h = (refl, refl)
le_numbers (inf s) (fin t n d) h = (refl, refl)
le_numbers (fin s m e) nan h = absurd h
le_numbers (fin s m e) (inf t) h = (refl, refl)
le_numbers (fin s m e) (fin t n d) h = (refl, refl)

-- ---- an infinity at either end

pub le_inf : (x : Float) → is_nan x ≡ false → T (le x (inf false))
unfolding le is_nan
le_inf nan p = absurd (true≢false p)
le_inf (inf true) p = tt
le_inf (inf false) p = tt
le_inf (fin s m e) p = tt

pub inf_le : (x : Float) → is_nan x ≡ false → T (le (inf true) x)
unfolding le is_nan
inf_le nan p = absurd (true≢false p)
inf_le (inf true) p = tt
inf_le (inf false) p = tt
inf_le (fin s m e) p = tt

-- ---- reflexive, total, transitive

pub float_refl : (x : Float) → is_nan x ≡ false → T (le x x)
unfolding is_nan
float_refl nan p = absurd (true≢false p)
float_refl (inf true) p = inf_le (inf true) p
float_refl (inf false) p = le_inf (inf false) p
float_refl (fin s m e) p = most→le (fin s m e) (fin s m e) tt tt (le_refl _)

finite_trans : (x y z : Float) → T (finite x) → T (finite y) → T (finite z) → T (le x y) → T (le y z) → T (le x z)
finite_trans x y z p q r h k =
    most→le x z p r
    (le_of_mul-le-mul_right {k = den y}
    (omega (arith, mul-le-mul_right (den z) (le→most x y p q h), mul-le-mul_right (den x) (le→most y z q r k)))
    (den_pos y))

pub float_trans : (x y z : Float) → T (le x y) → T (le y z) → T (le x z)
unfolding le
float_trans nan y z h k = absurd h
float_trans (inf true) y z h k = inf_le z (le_numbers y z k).1
float_trans (inf false) nan z h k = absurd h
float_trans (inf false) (inf true) z h k = absurd h
float_trans (inf false) (inf false) z h k = k
float_trans (inf false) (fin t n d) z h k = absurd h
float_trans (fin s m e) nan z h k = absurd h
float_trans (fin s m e) (inf true) z h k = absurd h
float_trans (fin s m e) (inf false) nan h k = absurd k
float_trans (fin s m e) (inf false) (inf true) h k = absurd k
float_trans (fin s m e) (inf false) (inf false) h k = tt
float_trans (fin s m e) (inf false) (fin u k c) h l = absurd l
float_trans (fin s m e) (fin t n d) nan h k = absurd k
float_trans (fin s m e) (fin t n d) (inf true) h k = absurd k
float_trans (fin s m e) (fin t n d) (inf false) h k = tt
float_trans (fin s m e) (fin t n d) (fin u k c) h l = finite_trans (fin s m e) (fin t n d) (fin u k c) tt tt tt h l

-- ---- `lt` is the opposite of `le` the other way round

finite_opposite : (x y : Float) → T (finite x) → T (finite y) → lt x y ≡ not (le y x)
finite_opposite x y p q =
    opposite (lt x y) (le y x)
    (λ h k. let a = lt→less x y p q h in let b = le→most y x q p k in omega arith)
    (λ f g. ⊎_elim (λ h. f (less→lt x y p q (omega arith))) (λ h. g (most→le y x q p (omega arith)))
    (lt_or_ge (hi_of x * den y + lo_of y * den x) (hi_of y * den x + lo_of x * den y)))

pub float_lt_is : (x y : Float) → is_nan x ≡ false → is_nan y ≡ false → lt x y ≡ not (le y x)
unfolding le is_nan
float_lt_is nan y p q = absurd (true≢false p)
float_lt_is (inf s) nan p q = absurd (true≢false q)
float_lt_is (inf true) (inf true) p q = refl
float_lt_is (inf true) (inf false) p q = refl
float_lt_is (inf false) (inf true) p q = refl
float_lt_is (inf false) (inf false) p q = refl
float_lt_is (inf true) (fin t n d) p q = refl
float_lt_is (inf false) (fin t n d) p q = refl
float_lt_is (fin s m e) nan p q = absurd (true≢false q)
float_lt_is (fin s m e) (inf true) p q = refl
float_lt_is (fin s m e) (inf false) p q = refl
float_lt_is (fin s m e) (fin t n d) p q = finite_opposite (fin s m e) (fin t n d) tt tt

pub float_lt_le : (x y : Float) → T (lt x y) → T (le x y)
unfolding le
float_lt_le x y h = or_l (lt x y) (eq x y) h

pub lt_numbers : (x y : Float) → T (lt x y) → (is_nan x ≡ false) × (is_nan y ≡ false)
lt_numbers x y h = le_numbers x y (float_lt_le x y h)

pub float_clash : (x y : Float) → T (lt x y) → T (le y x) → ⊥
float_clash x y h k =
    let n = lt_numbers x y h in
    T_not (le y x) (subst T (float_lt_is x y n.0 n.1) h) k

pub float_not_lt : (x y : Float) → is_nan x ≡ false → is_nan y ≡ false → lt x y ≡ false → T (le y x)
float_not_lt x y p q e = back (le y x) (sym e ∙ float_lt_is x y p q)
  where
    back : (b : Bool) → false ≡ not b → T b
    back true e = tt
    back false e = false≢true e

-- x < y wherever y ≤ x is ruled out
lt_unless : (x y : Float) → is_nan x ≡ false → is_nan y ≡ false → (T (le y x) → ⊥) → T (lt x y)
lt_unless x y p q f = subst T (sym (float_lt_is x y p q)) (not_T (le y x) f)

pub float_not_le : (x y : Float) → is_nan x ≡ false → is_nan y ≡ false → le x y ≡ false → T (lt y x)
float_not_le x y p q e = lt_unless y x q p (λ h. subst T e h)

-- ---- a NaN is what does not equal itself

equal_self : (a : ℕ) → (eqb a a && true) ≡ true
equal_self a = is_true (eqb a a && true) (and_i (eqb a a) true (eqb_refl a) tt)

pub eq_self : (x : Float) → eq x x ≡ not (is_nan x)
unfolding eq is_nan
eq_self nan = refl
eq_self (inf true) = refl
eq_self (inf false) = refl
eq_self (fin true m e) = equal_self (m * up e * down e)
eq_self (fin false m e) = equal_self (m * up e * down e)

-- what the code's test `x == x` tells
pub number_if_equal : (x : Float) → eq x x ≡ true → is_nan x ≡ false
number_if_equal x e = back (is_nan x) (sym e ∙ eq_self x)
  where
    back : (b : Bool) → true ≡ not b → b ≡ false
    back true e = absurd (true≢false e)
    back false e = refl

pub nan_if_not_equal : (x : Float) → eq x x ≡ false → is_nan x ≡ true
nan_if_not_equal x e = back (is_nan x) (sym e ∙ eq_self x)
  where
    back : (b : Bool) → false ≡ not b → b ≡ true
    back true e = refl
    back false e = absurd (false≢true e)

-- ---- the negative, which turns the order round

pub neg_nan : (x : Float) → is_nan (neg x) ≡ is_nan x
unfolding neg is_nan
neg_nan nan = refl
neg_nan (inf s) = refl
neg_nan (fin s m e) = refl

pub neg_number : (x : Float) → is_nan x ≡ false → is_nan (neg x) ≡ false
neg_number x p = neg_nan x ∙ p

pub float_neg : (x y : Float) → T (le x y) → T (le (neg y) (neg x))
unfolding le neg
float_neg nan y h = absurd h
float_neg (inf true) y h = le_inf (neg y) (neg_number y (le_numbers (inf true) y h).1)
float_neg (inf false) nan h = absurd h
float_neg (inf false) (inf true) h = absurd h
float_neg (inf false) (inf false) h = tt
float_neg (inf false) (fin t n d) h = absurd h
float_neg (fin s m e) nan h = absurd h
float_neg (fin s m e) (inf true) h = absurd h
float_neg (fin s m e) (inf false) h = tt
float_neg (fin s m e) (fin t n d) h =
    most→le (fin (not t) n d) (fin (not s) m e) tt tt
    (rw (hi_not t, hi_not s, lo_not t, lo_not s) (let k = le→most (fin s m e) (fin t n d) tt tt h in omega arith))
