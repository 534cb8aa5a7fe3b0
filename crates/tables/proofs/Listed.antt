-- Laws of a list given entry by entry, and of a loop that fills an array from the front.
use mathlib.Core.Path.{◌≡◌, refl, sym, ap, ap₂, ◌∙◌, subst}
use mathlib.Core.List.{List, [], ◌∷◌, ◌++◌, map}
use mathlib.Core.Logic.{⊎_elim}
use Prim.Native.Nat.{ℕ, zero, suc, ◌+◌, ◌-◌, ◌<◌, suc-le-suc}
use native.Mathlib.Nat.{le_of_suc-le-suc, not-suc-le-zero, eq-or-lt_of_le, zero-lt-suc}
use native.Mathlib.Decide.{dec_lt}
use native.Mathlib.Numerals.{add-one}
use native.Mathlib.Omega.{arith}
use lib.ListN.{length, get_or, set, replicate, length-replicate, get_or-replicate, get_or-append, get_or-eq_default}
use lib.Seq.{ext_get_or, get_or-set_same, get_or-set_other, get_or-append-add}
use Rattle.tables.specs.Listed.{tabulate}

module _ {A : Type 0} where
  pub tabulated : (n : ℕ) (f : ℕ → A) (k : ℕ) (d : A) → k < n → get_or (tabulate n f) k d ≡ f k
  tabulated zero f k d h = absurd (not-suc-le-zero h)
  tabulated (suc n) f zero d h = refl
  tabulated (suc n) f (suc k) d h = tabulated n (λ k. f (suc k)) k d (le_of_suc-le-suc h)

  -- a list of one value alone
  pub blank : (n : ℕ) (d : A) (k : ℕ) → get_or (replicate n d) k d ≡ d
  blank n d k = go (dec_lt k n)
    where
      go : Dec (k < n) → get_or (replicate n d) k d ≡ d
      go (yes h) = get_or-replicate n k d d h
      go (no h) = get_or-eq_default (replicate n d) d {n = k} (rw (length-replicate n d) (omega arith))

  pub length_tabulate : (n : ℕ) (f : ℕ → A) → length (tabulate n f) ≡ n
  length_tabulate zero f = refl
  length_tabulate (suc n) f = ap suc (length_tabulate n (λ k. f (suc k)))

  -- where an entry is the default, so is what stands behind the end
  pub or_behind : (n : ℕ) (f : ℕ → A) (k : ℕ) (d : A) → (k < n → f k ≡ d) → get_or (tabulate n f) k d ≡ d
  or_behind n f k d e = go (dec_lt k n)
    where
      go : Dec (k < n) → get_or (tabulate n f) k d ≡ d
      go (yes h) = tabulated n f k d h ∙ e h
      go (no h) = get_or-eq_default (tabulate n f) d {n = k} (rw (length_tabulate n f) (omega arith))

  -- a list that has f's entries is f's list
  pub listed : (n : ℕ) (f : ℕ → A) (d : A) (xs : List A) → length xs ≡ n → ((k : ℕ) → k < n → get_or xs k d ≡ f k) → xs ≡ tabulate n f
  listed n f d xs e b =
      ext_get_or d xs (tabulate n f) (e ∙ sym (length_tabulate n f))
      (λ k l. let h : k < n = subst (λ (m : ℕ). k < m) e l in b k h ∙ sym (tabulated n f k d h))

  -- what stands at a place of two lists put together
  pub at_append : (d : A) (xs ys : List A) (k n : ℕ) (v : A) → length xs ≡ n → (k < n → get_or xs k d ≡ v)
      → ((i : ℕ) → k ≡ n + i → i < length ys → get_or ys i d ≡ v) → k < n + length ys → get_or (xs ++ ys) k d ≡ v
  at_append d xs ys k n v e a b h = go (dec_lt k n)
    where
      go : Dec (k < n) → get_or (xs ++ ys) k d ≡ v
      go (yes l) = get_or-append xs ys d k (rw e l) ∙ a l
      go (no l) =
          let q : k ≡ n + (k - n) = omega arith in
          let q' : k ≡ length xs + (k - n) = q ∙ ap (λ (m : ℕ). m + (k - n)) (sym e) in
          ap (λ (m : ℕ). get_or (xs ++ ys) m d) q' ∙ get_or-append-add xs ys (k - n) d ∙ b (k - n) q (omega arith)

  -- two functions that agree make the same list
  pub tabulate_same : (n : ℕ) (f g : ℕ → A) → ((k : ℕ) → k < n → f k ≡ g k) → tabulate n f ≡ tabulate n g
  tabulate_same zero f g e = refl
  tabulate_same (suc n) f g e = ap₂ ◌∷◌ (e zero (zero-lt-suc n)) (tabulate_same n (λ k. f (suc k)) (λ k. g (suc k)) (λ k h. e (suc k) (suc-le-suc h)))

  -- one more entry is filled in
  pub filled : (P : ℕ → A → Type 0) (xs : List A) (i : ℕ) (a d : A) → i < length xs → ((k : ℕ) → k < i → P k (get_or xs k d)) → P i a
      → (k : ℕ) → k < i + 1 → P k (get_or (set xs i a) k d)
  filled P xs i a d h b p k l =
      ⊎_elim
      (λ e. subst (λ (j : ℕ). P j (get_or (set xs i a) j d)) (sym e) (subst (P i) (sym (get_or-set_same xs i a d h)) p))
      (λ m. subst (P k) (sym (get_or-set_other xs i k a d (λ e. let q = m in omega arith))) (b k m))
      (eq-or-lt_of_le (le_of_suc-le-suc (subst (λ (m : ℕ). k < m) (add-one i) l)))

-- an entry of a list whose entries are each changed
pub map_at : {A B : Type 0} (g : A → B) (xs : List A) (i : ℕ) (d : A) (d' : B) → i < length xs → get_or (map g xs) i d' ≡ g (get_or xs i d)
map_at g [] i d d' h = absurd (not-suc-le-zero h)
map_at g (x ∷ xs) zero d d' h = refl
map_at g (x ∷ xs) (suc i) d d' h = map_at g xs i d d' (le_of_suc-le-suc h)
