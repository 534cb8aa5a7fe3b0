-- A table's rule, proved at every entry by one test that antt computes over the whole table.
use mathlib.Core.Path.{◌≡◌, refl, sym}
use mathlib.Core.Bool.{Bool, true, false, ◌&&◌, true≢false}
use mathlib.Core.List.{List, [], ◌∷◌}
use Prim.Native.Nat.{ℕ, zero, suc, ◌<◌}
use native.Mathlib.Nat.{le_of_suc-le-suc, not-suc-le-zero}
use lib.Dec.{T}
use lib.ListN.{length, get_or}

-- ---- two tests that pass together

pub first : (a b : Bool) → T (a && b) → T a
first true b t = tt
first false b t = t

pub second : (a b : Bool) → T (a && b) → T b
second true b t = t
second false b t = absurd t

-- the same of a test's answer
pub both_true : (a b : Bool) → (a && b) ≡ true → (a ≡ true) × (b ≡ true)
both_true true b e = (refl, e)
both_true false b e = absurd (true≢false (sym e))

-- ---- the same test at each number below a bound

abbrev pub all_below : ℕ → (ℕ → Bool) → Bool
all_below zero f = true
all_below (suc n) f = f zero && all_below n (λ k. f (suc k))

pub below : (n : ℕ) (f : ℕ → Bool) → T (all_below n f) → (k : ℕ) → k < n → T (f k)
below zero f t k h = absurd (not-suc-le-zero h)
below (suc n) f t zero h = first (f zero) (all_below n (λ k. f (suc k))) t
below (suc n) f t (suc k) h =
    below n (λ k. f (suc k)) (second (f zero) (all_below n (λ k. f (suc k))) t) k (le_of_suc-le-suc h)

-- ---- the same test of each entry

module _ {A : Type 0} where
  abbrev pub all : (A → Bool) → List A → Bool
  all p [] = true
  all p (x ∷ xs) = p x && all p xs

  -- at each place; past the end stands d, which passes too
  pub all_at : (p : A → Bool) (xs : List A) (d : A) → T (p d) → T (all p xs) → (i : ℕ) → T (p (get_or xs i d))
  all_at p [] d z t i = z
  all_at p (x ∷ xs) d z t zero = first (p x) (all p xs) t
  all_at p (x ∷ xs) d z t (suc i) = all_at p xs d z (second (p x) (all p xs) t) i

-- ---- the same test of each entry and every later one: with a strict order, the table is in that order

module _ {A : Type 0} where
  abbrev pub before : (A → A → Bool) → A → List A → Bool
  before r x [] = true
  before r x (y ∷ ys) = r x y && before r x ys

  abbrev pub ordered : (A → A → Bool) → List A → Bool
  ordered r [] = true
  ordered r (x ∷ xs) = before r x xs && ordered r xs

  before_at : (r : A → A → Bool) (x : A) (ys : List A) (d : A) → T (before r x ys) → (j : ℕ) → j < length ys → T (r x (get_or ys j d))
  before_at r x [] d t j h = absurd (not-suc-le-zero h)
  before_at r x (y ∷ ys) d t zero h = first (r x y) (before r x ys) t
  before_at r x (y ∷ ys) d t (suc j) h = before_at r x ys d (second (r x y) (before r x ys) t) j (le_of_suc-le-suc h)

  pub ordered_at : (r : A → A → Bool) (xs : List A) (d : A) → T (ordered r xs)
      → (i j : ℕ) → i < j → j < length xs → T (r (get_or xs i d) (get_or xs j d))
  ordered_at r [] d t i j l h = absurd (not-suc-le-zero h)
  ordered_at r (x ∷ xs) d t i zero l h = absurd (not-suc-le-zero l)
  ordered_at r (x ∷ xs) d t zero (suc j) l h = before_at r x xs d (first (before r x xs) (ordered r xs) t) j (le_of_suc-le-suc h)
  ordered_at r (x ∷ xs) d t (suc i) (suc j) l h =
      ordered_at r xs d (second (before r x xs) (ordered r xs) t) i j (le_of_suc-le-suc l) (le_of_suc-le-suc h)
