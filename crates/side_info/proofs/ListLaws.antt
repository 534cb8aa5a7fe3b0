-- Laws of each of a list, of numbers that a list has, and of lists whose numbers are all different.
use mathlib.Core.Path.{◌≡◌, refl, sym, ap₂, subst}
use mathlib.Core.Bool.{Bool, true, false, ◌||◌, true≢false}
use mathlib.Core.List.{List, [], ◌∷◌, ◌++◌, map, flat_map}
use Prim.Native.Nat.{ℕ, zero, suc, ◌<◌, suc-le-suc}
use native.Mathlib.Nat.{zero-lt-suc, not-suc-le-zero, le_of_suc-le-suc}
use lib.Dec.{eqb}
use lib.ListN.{length, get_or}
use borrow.Author.Tests.{eqb-true, eq-eqb, ne_eqb}
use Rattle.tables.specs.Search.{one_of}

-- ---- of each of a list

abbrev pub Each : {A : Type 0} → (A → Type 0) → List A → Type 0
Each P [] = Unit {0}
Each P (x ∷ xs) = P x × Each P xs

module _ {A : Type 0} where
  pub each_map : (P Q : A → Type 0) → ((x : A) → P x → Q x) → (xs : List A) → Each P xs → Each Q xs
  each_map P Q f [] e = e
  each_map P Q f (x ∷ xs) e = (f x e.0, each_map P Q f xs e.1)

  pub each_both : (P Q : A → Type 0) (xs : List A) → Each P xs → Each Q xs → Each (λ x. P x × Q x) xs
  each_both P Q [] e f = tt
  each_both P Q (x ∷ xs) e f = ((e.0, f.0), each_both P Q xs e.1 f.1)

  -- by number
  pub each_at : (P : A → Type 0) (d : A) (xs : List A) → ((k : ℕ) → k < length xs → P (get_or xs k d)) → Each P xs
  each_at P d [] h = tt
  each_at P d (x ∷ xs) h = (h 0 (zero-lt-suc (length xs)), each_at P d xs (λ k l. h (suc k) (suc-le-suc l)))

  pub each_get : (P : A → Type 0) (d : A) (xs : List A) → Each P xs → (k : ℕ) → k < length xs → P (get_or xs k d)
  each_get P d [] e k h = absurd (not-suc-le-zero h)
  each_get P d (x ∷ xs) e zero h = e.0
  each_get P d (x ∷ xs) e (suc k) h = each_get P d xs e.1 k (le_of_suc-le-suc h)

-- lists that are made of equal parts
module _ {A B : Type 0} where
  pub flat_each : (f g : A → List B) (xs : List A) → Each (λ x. f x ≡ g x) xs → flat_map f xs ≡ flat_map g xs
  unfolding flat_map
  flat_each f g [] e = refl
  flat_each f g (x ∷ xs) e = ap₂ ◌++◌ e.0 (flat_each f g xs e.1)

  pub map_each : (f g : A → B) (xs : List A) → Each (λ x. f x ≡ g x) xs → map f xs ≡ map g xs
  map_each f g [] e = refl
  map_each f g (x ∷ xs) e = ap₂ ◌∷◌ e.0 (map_each f g xs e.1)

-- ---- numbers that a list has

or_none : (a b : Bool) → (a || b) ≡ false → (a ≡ false) × (b ≡ false)
or_none true b e = absurd (true≢false e)
or_none false b e = (refl, e)

pub in_neither : (k : ℕ) (is js : List ℕ) → one_of (is ++ js) k ≡ false → (one_of is k ≡ false) × (one_of js k ≡ false)
unfolding one_of
in_neither k [] js e = (refl, e)
in_neither k (i ∷ is) js e =
    let p = or_none (eqb k i) (one_of (is ++ js) k) e in
    let q = in_neither k is js p.1 in
    (ap₂ ◌||◌ p.0 q.0, q.1)

pub not_first : (k i : ℕ) (is : List ℕ) → one_of (i ∷ is) k ≡ false → (eqb k i ≡ false) × (one_of is k ≡ false)
unfolding one_of
not_first k i is e = or_none (eqb k i) (one_of is k) e

pub has_first : (k : ℕ) (is : List ℕ) → one_of (k ∷ is) k ≡ true
unfolding one_of
has_first k is = rw (eq-eqb k k refl)

pub has_more : (k i : ℕ) (is : List ℕ) → one_of is k ≡ true → one_of (i ∷ is) k ≡ true
unfolding one_of
has_more k i is e = go (eqb k i)
  where
    go : (b : Bool) → (b || one_of is k) ≡ true
    go true = refl
    go false = e

pub has_none : (k : ℕ) → one_of [] k ≡ false
unfolding one_of
has_none k = refl

-- what holds of each holds of a number that the list has
pub each_one : (P : ℕ → Type 0) (ks : List ℕ) (k : ℕ) → Each P ks → one_of ks k ≡ true → P k
unfolding one_of
each_one P [] k e h = absurd (true≢false (sym h))
each_one P (j ∷ ks) k e h = go (eqb k j) refl (each_one P ks k e.1) h
  where
    go : (b : Bool) → eqb k j ≡ b → (one_of ks k ≡ true → P k) → (b || one_of ks k) ≡ true → P k
    go true q rest h = subst P (sym (eqb-true k j q)) e.0
    go false q rest h = rest h

-- ---- all different

abbrev pub Distinct : List ℕ → Type 0
Distinct [] = Unit {0}
Distinct (k ∷ ks) = (one_of ks k ≡ false) × Distinct ks

-- by number
missing : (k : ℕ) (ks : List ℕ) → ((j : ℕ) → j < length ks → k ≡ get_or ks j 0 → ⊥) → one_of ks k ≡ false
unfolding one_of
missing k [] h = refl
missing k (i ∷ ks) h = ap₂ ◌||◌ (ne_eqb k i (h 0 (zero-lt-suc (length ks)))) (missing k ks (λ j l. h (suc j) (suc-le-suc l)))

pub distinct_at : (ks : List ℕ) → ((i j : ℕ) → i < j → j < length ks → get_or ks i 0 ≡ get_or ks j 0 → ⊥) → Distinct ks
distinct_at [] h = tt
distinct_at (k ∷ ks) h =
    (missing k ks (λ j l. h 0 (suc j) (zero-lt-suc j) (suc-le-suc l)), distinct_at ks (λ i j l m. h (suc i) (suc j) (suc-le-suc l) (suc-le-suc m)))

-- the front of a list of different numbers, what is behind it, and that they have none in common
pub distinct_front : (is js : List ℕ) → Distinct (is ++ js) → Distinct is
distinct_front [] js d = tt
distinct_front (i ∷ is) js d = ((in_neither i is js d.0).0, distinct_front is js d.1)

pub distinct_behind : (is js : List ℕ) → Distinct (is ++ js) → Distinct js
distinct_behind [] js d = d
distinct_behind (i ∷ is) js d = distinct_behind is js d.1

pub apart : (is js : List ℕ) → Distinct (is ++ js) → Each (λ k. one_of js k ≡ false) is
apart [] js d = tt
apart (i ∷ is) js d = ((in_neither i is js d.0).1, apart is js d.1)

pub each_front : (P : ℕ → Type 0) (is js : List ℕ) → Each P (is ++ js) → Each P is
each_front P [] js e = tt
each_front P (i ∷ is) js e = (e.0, each_front P is js e.1)

pub each_behind : (P : ℕ → Type 0) (is js : List ℕ) → Each P (is ++ js) → Each P js
each_behind P [] js e = e
each_behind P (i ∷ is) js e = each_behind P is js e.1

-- each number that the list has
pub each_of : (P : ℕ → Type 0) (ks : List ℕ) → ((k : ℕ) → one_of ks k ≡ true → P k) → Each P ks
each_of P [] h = tt
each_of P (k ∷ ks) h = (h k (has_first k ks), each_of P ks (λ j e. h j (has_more j k ks e)))
