-- The smaller and the larger of two: each is the one that a test chooses, so what holds of a choice is proved once for both.
use mathlib.Core.Path.{◌≡◌, refl}
use mathlib.Core.Bool.{Bool, true, false, cond, false≢true}
use mathlib.Core.Logic.{◌⊎◌, inl, inr}
use lib.Dec.{T}
use lib.Ieee.{Float, nan, inf, fin, lt, le, is_nan}
use denote.Floats.{passes}
use Rattle.ieee_order.specs.Order.{chosen_of, max_of, min_of}
use Rattle.ieee_order.proofs.Order.{le_numbers, float_refl, float_trans, float_lt_le, float_not_lt}

-- ---- a choice

chosen_keeps : (t : Bool) (P : Float → Type 0) (a b : Float) → P a → P b → P (chosen_of t a b)
chosen_keeps t P a b p q = go (is_nan a) (is_nan b) t
  where
    go : (u v t : Bool) → P (cond u b (cond v a (cond t b a)))
    go true v t = q
    go false true t = p
    go false false true = q
    go false false false = p

chosen_of_nan : (t : Bool) (a b : Float) → is_nan a ≡ true → chosen_of t a b ≡ b
chosen_of_nan t a b p = rw p

chosen_and_nan : (t : Bool) (a b : Float) → is_nan b ≡ true → chosen_of t a b ≡ a
unfolding is_nan
chosen_and_nan t nan nan p = refl
chosen_and_nan t (inf s) nan p = refl
chosen_and_nan t (fin s m e) nan p = refl
chosen_and_nan t a (inf s) p = absurd (false≢true p)
chosen_and_nan t a (fin s m e) p = absurd (false≢true p)

-- the two answers of the code, whose test holds of numbers alone
pub takes_second : (t : Bool) (a b : Float) → (t ≡ true → is_nan b ≡ false) → (t ≡ true) ⊎ (is_nan a ≡ true) → b ≡ chosen_of t a b
takes_second t a b n (inl e) = go (is_nan a)
  where
    go : (u : Bool) → b ≡ cond u b (cond (is_nan b) a (cond t b a))
    go true = refl
    go false = rw (n e, e)
takes_second t a b n (inr p) = rw p

pub takes_first : (t : Bool) (a b : Float) → t ≡ false → is_nan a ≡ false → a ≡ chosen_of t a b
takes_first t a b e p = rw (p, e) (go (is_nan b))
  where
    go : (v : Bool) → a ≡ cond v a a
    go true = refl
    go false = refl

-- an order in which the test takes the second where it stands before the first, and the first where not
module _ (R : Float → Float → Type 0) (t : Bool) (a b : Float) where
  chosen_first : is_nan a ≡ false → R a a → (t ≡ true → R b a) → R (chosen_of t a b) a
  chosen_first p r f = rw p (go (is_nan b) t refl)
    where
      go : (v u : Bool) → t ≡ u → R (cond v a (cond u b a)) a
      go true u e = r
      go false true e = f e
      go false false e = r

  chosen_second : is_nan b ≡ false → R b b → (is_nan a ≡ false → t ≡ false → R a b) → R (chosen_of t a b) b
  chosen_second p r f = rw p (go (is_nan a) refl t refl)
    where
      go : (u : Bool) → is_nan a ≡ u → (v : Bool) → t ≡ v → R (cond u b (cond v b a)) b
      go true q v e = r
      go false q true e = r
      go false q false e = f q e

-- ---- the smaller

-- what holds of both holds of it
pub min_keeps : (P : Float → Type 0) (a b : Float) → P a → P b → P (min_of a b)
unfolding min_of
min_keeps P a b = chosen_keeps (lt b a) P a b

pub min_picks : (a b : Float) → (min_of a b ≡ a) ⊎ (min_of a b ≡ b)
min_picks a b = min_keeps (λ z. (z ≡ a) ⊎ (z ≡ b)) a b (inl refl) (inr refl)

pub min_of_nan : (a b : Float) → is_nan a ≡ true → min_of a b ≡ b
unfolding min_of
min_of_nan a b = chosen_of_nan (lt b a) a b

pub min_and_nan : (a b : Float) → is_nan b ≡ true → min_of a b ≡ a
unfolding min_of
min_and_nan a b = chosen_and_nan (lt b a) a b

pub min_le_first : (a b : Float) → is_nan a ≡ false → T (le (min_of a b) a)
unfolding min_of
min_le_first a b p =
    chosen_first (λ x y. T (le x y)) (lt b a) a b p (float_refl a p) (λ e. float_lt_le b a (passes (lt b a) e))

pub min_le_second : (a b : Float) → is_nan b ≡ false → T (le (min_of a b) b)
unfolding min_of
min_le_second a b p =
    chosen_second (λ x y. T (le x y)) (lt b a) a b p (float_refl b p) (λ q e. float_not_lt b a p q e)

pub min_number : (a b : Float) → is_nan a ≡ false → is_nan (min_of a b) ≡ false
min_number a b p = (le_numbers (min_of a b) a (min_le_first a b p)).0

pub min_number_second : (a b : Float) → is_nan b ≡ false → is_nan (min_of a b) ≡ false
min_number_second a b p = (le_numbers (min_of a b) b (min_le_second a b p)).0

pub min_mono : (a a' b b' : Float) → T (le a a') → T (le b b') → T (le (min_of a b) (min_of a' b'))
min_mono a a' b b' h k =
    min_keeps (λ z. T (le (min_of a b) z)) a' b'
    (float_trans (min_of a b) a a' (min_le_first a b (le_numbers a a' h).0) h)
    (float_trans (min_of a b) b b' (min_le_second a b (le_numbers b b' k).0) k)

-- ---- the larger, by the same laws

pub max_keeps : (P : Float → Type 0) (a b : Float) → P a → P b → P (max_of a b)
unfolding max_of
max_keeps P a b = chosen_keeps (lt a b) P a b

pub max_picks : (a b : Float) → (max_of a b ≡ a) ⊎ (max_of a b ≡ b)
max_picks a b = max_keeps (λ z. (z ≡ a) ⊎ (z ≡ b)) a b (inl refl) (inr refl)

pub max_of_nan : (a b : Float) → is_nan a ≡ true → max_of a b ≡ b
unfolding max_of
max_of_nan a b = chosen_of_nan (lt a b) a b

pub max_and_nan : (a b : Float) → is_nan b ≡ true → max_of a b ≡ a
unfolding max_of
max_and_nan a b = chosen_and_nan (lt a b) a b

pub le_max_first : (a b : Float) → is_nan a ≡ false → T (le a (max_of a b))
unfolding max_of
le_max_first a b p =
    chosen_first (λ x y. T (le y x)) (lt a b) a b p (float_refl a p) (λ e. float_lt_le a b (passes (lt a b) e))

pub le_max_second : (a b : Float) → is_nan b ≡ false → T (le b (max_of a b))
unfolding max_of
le_max_second a b p =
    chosen_second (λ x y. T (le y x)) (lt a b) a b p (float_refl b p) (λ q e. float_not_lt a b q p e)

pub max_number : (a b : Float) → is_nan a ≡ false → is_nan (max_of a b) ≡ false
max_number a b p = (le_numbers a (max_of a b) (le_max_first a b p)).1

pub max_number_second : (a b : Float) → is_nan b ≡ false → is_nan (max_of a b) ≡ false
max_number_second a b p = (le_numbers b (max_of a b) (le_max_second a b p)).1
