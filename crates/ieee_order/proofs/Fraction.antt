-- A finite value as a signed fraction (hi − lo) / den, hi or lo its magnitude and the other 0: `lt` and `le` are inequalities of products, whatever the signs.
use mathlib.Core.Path.{◌≡◌, refl}
use mathlib.Core.Bool.{Bool, true, false, not, ◌&&◌, ◌||◌}
use mathlib.Core.Logic.{◌⊎◌, inl, inr}
use Prim.Native.Nat.{ℕ, ◌+◌, ◌*◌, ◌≤◌, ◌<◌}
use native.Mathlib.Nat.{eq-or-lt_of_le}
use native.Mathlib.Omega.{arith}
use lib.Dec.{T, leb, eqb, leb→le, nleb→lt, ltb→lt, lt→ltb, eqb→eq}
use lib.Ieee.{Float, nan, inf, fin, up, down, below, level, lt, le}
use lib.Ieee.Fits.{and_i, and_l, and_r, eq→eqb}
use lib.Ieee.Scale.{finite}
use lib.Ieee.Positive.{den}

-- ±a is hi − lo
abbrev pub hi : Bool → ℕ → ℕ
hi true a = 0
hi false a = a

abbrev pub lo : Bool → ℕ → ℕ
lo true a = a
lo false a = 0

pub hi_not : (s : Bool) (a : ℕ) → hi (not s) a ≡ lo s a
hi_not true a = refl
hi_not false a = refl

pub lo_not : (s : Bool) (a : ℕ) → lo (not s) a ≡ hi s a
lo_not true a = refl
lo_not false a = refl

pub hi_mul : (s : Bool) (a c : ℕ) → hi s (a * c) ≡ hi s a * c
hi_mul true a c = omega arith
hi_mul false a c = refl

pub lo_mul : (s : Bool) (a c : ℕ) → lo s (a * c) ≡ lo s a * c
lo_mul true a c = refl
lo_mul false a c = omega arith

-- a finite value is (hi_of − lo_of) / den
abbrev pub hi_of : Float → ℕ
hi_of nan = 0
hi_of (inf s) = 0
hi_of (fin s m e) = hi s (m * up e)

abbrev pub lo_of : Float → ℕ
lo_of nan = 0
lo_of (inf s) = 0
lo_of (fin s m e) = lo s (m * up e)

-- x < y and x ≤ y over one denominator, each negative part on the other side
abbrev pub Less : Float → Float → Type 0
Less x y = hi_of x * den y + lo_of y * den x < hi_of y * den x + lo_of x * den y

abbrev pub AtMost : Float → Float → Type 0
AtMost x y = hi_of x * den y + lo_of y * den x ≤ hi_of y * den x + lo_of x * den y

-- ---- tests

pub or_l : (a b : Bool) → T a → T (a || b)
or_l true b t = tt
or_l false b t = absurd t

pub or_r : (a b : Bool) → T b → T (a || b)
or_r true b t = tt
or_r false b t = t

or_split : (a b : Bool) → T (a || b) → T a ⊎ T b
or_split true b t = inl tt
or_split false b t = inr t

pub lt_or_ge : (a b : ℕ) → (a < b) ⊎ (b ≤ a)
lt_or_ge a b = go (leb b a) (leb→le b a) (nleb→lt b a)
  where
    go : (t : Bool) → (T t → b ≤ a) → (T (not t) → a < b) → (a < b) ⊎ (b ≤ a)
    go true f g = inr (f tt)
    go false f g = inl (g tt)

-- ---- the comparisons of ±a / d and ±b / c, by sign

module _ (a b c d : ℕ) where
  below→ : (s t : Bool) → T (below s (a * c) t (b * d)) → hi s a * c + lo t b * d < hi t b * d + lo s a * c
  below→ true true h = omega (arith, ltb→lt (b * d) (a * c) h)
  below→ true false h = omega (arith, ltb→lt 0 (a * c + b * d) h)
  below→ false true h = absurd h
  below→ false false h = omega (arith, ltb→lt (a * c) (b * d) h)

  →below : (s t : Bool) → hi s a * c + lo t b * d < hi t b * d + lo s a * c → T (below s (a * c) t (b * d))
  →below true true h = lt→ltb (b * d) (a * c) (omega arith)
  →below true false h = lt→ltb 0 (a * c + b * d) (omega arith)
  →below false true h = absurd (omega arith)
  →below false false h = lt→ltb (a * c) (b * d) (omega arith)

  equal : (z : Bool) → T (eqb (a * c) (b * d) && z) → a * c ≡ b * d
  equal z h = eqb→eq (a * c) (b * d) (and_l (eqb (a * c) (b * d)) z h)

  zero : T (eqb (a * c) (b * d) && eqb (a * c) 0) → a * c ≡ 0
  zero h = eqb→eq (a * c) 0 (and_r (eqb (a * c) (b * d)) (eqb (a * c) 0) h)

  level→ : (s t : Bool) → T (level s (a * c) t (b * d)) → hi s a * c + lo t b * d ≡ hi t b * d + lo s a * c
  level→ true true h = omega (arith, equal true h)
  level→ true false h = omega (arith, equal (eqb (a * c) 0) h, zero h)
  level→ false true h = omega (arith, equal (eqb (a * c) 0) h, zero h)
  level→ false false h = omega (arith, equal true h)

  by_equal : (z : Bool) → a * c ≡ b * d → T z → T (eqb (a * c) (b * d) && z)
  by_equal z e t = and_i (eqb (a * c) (b * d)) z (eq→eqb e) t

  by_zero : a * c ≡ 0 → b * d ≡ 0 → T (eqb (a * c) (b * d) && eqb (a * c) 0)
  by_zero e f = by_equal (eqb (a * c) 0) (omega arith) (eq→eqb e)

  →level : (s t : Bool) → hi s a * c + lo t b * d ≡ hi t b * d + lo s a * c → T (level s (a * c) t (b * d))
  →level true true h = by_equal true (omega arith) tt
  →level true false h = by_zero (omega arith) (omega arith)
  →level false true h = by_zero (omega arith) (omega arith)
  →level false false h = by_equal true (omega arith) tt

-- ---- `lt` and `le` of finite values

pub lt→less : (x y : Float) → T (finite x) → T (finite y) → T (lt x y) → Less x y
unfolding lt
lt→less nan y p q h = absurd p
lt→less (inf s) y p q h = absurd p
lt→less (fin s m e) nan p q h = absurd q
lt→less (fin s m e) (inf t) p q h = absurd q
lt→less (fin s m e) (fin t n d) p q h = below→ (m * up e) (n * up d) (down d) (down e) s t h

pub less→lt : (x y : Float) → T (finite x) → T (finite y) → Less x y → T (lt x y)
unfolding lt
less→lt nan y p q h = absurd p
less→lt (inf s) y p q h = absurd p
less→lt (fin s m e) nan p q h = absurd q
less→lt (fin s m e) (inf t) p q h = absurd q
less→lt (fin s m e) (fin t n d) p q h = →below (m * up e) (n * up d) (down d) (down e) s t h

pub le→most : (x y : Float) → T (finite x) → T (finite y) → T (le x y) → AtMost x y
unfolding le
le→most nan y p q h = absurd p
le→most (inf s) y p q h = absurd p
le→most (fin s m e) nan p q h = absurd q
le→most (fin s m e) (inf t) p q h = absurd q
le→most (fin s m e) (fin t n d) p q h = go (or_split (below s (m * up e * down d) t (n * up d * down e)) (level s (m * up e * down d) t (n * up d * down e)) h)
  where
    go : T (below s (m * up e * down d) t (n * up d * down e)) ⊎ T (level s (m * up e * down d) t (n * up d * down e)) → AtMost (fin s m e) (fin t n d)
    go (inl l) = let k = below→ (m * up e) (n * up d) (down d) (down e) s t l in omega arith
    go (inr l) = let k = level→ (m * up e) (n * up d) (down d) (down e) s t l in omega arith

pub most→le : (x y : Float) → T (finite x) → T (finite y) → AtMost x y → T (le x y)
unfolding le
most→le nan y p q h = absurd p
most→le (inf s) y p q h = absurd p
most→le (fin s m e) nan p q h = absurd q
most→le (fin s m e) (inf t) p q h = absurd q
most→le (fin s m e) (fin t n d) p q h = go (eq-or-lt_of_le h)
  where
    a : ℕ
    a = m * up e * down d

    b : ℕ
    b = n * up d * down e

    go : (hi_of (fin s m e) * down d + lo_of (fin t n d) * down e ≡ hi_of (fin t n d) * down e + lo_of (fin s m e) * down d) ⊎ Less (fin s m e) (fin t n d) → T (le (fin s m e) (fin t n d))
    go (inl k) = or_r (below s a t b) (level s a t b) (→level (m * up e) (n * up d) (down d) (down e) s t k)
    go (inr k) = or_l (below s a t b) (level s a t b) (→below (m * up e) (n * up d) (down d) (down e) s t k)
