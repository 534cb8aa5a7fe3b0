-- Laws of the search in a table.
use Rattle.std.proofs.lemmas.Option.{none-some, same_Some}
use Rattle.std.specs.Prelude.{Option, None, Some, option_map, slice_get}
use mathlib.Core.Path.{◌≡◌, refl, sym, ap, ◌∙◌, subst}
use mathlib.Core.Bool.{Bool, true, false, cond}
use mathlib.Core.List.{List, [], ◌∷◌}
use mathlib.Core.Logic.{◌⊎◌, inl, inr}
use Prim.Native.Nat.{ℕ, zero, suc, ◌≤◌, ◌<◌, suc-le-suc}
use native.Mathlib.Nat.{le_of_suc-le-suc, not-suc-le-zero, zero-lt-suc}
use native.Mathlib.Omega.{arith}
use lib.Dec.{T}
use lib.ListN.{length, get_or}
use Rattle.tables.specs.Search.{place, last_place, find, entry_at}
use Rattle.tables.proofs.Rule.{first, second, all}

module _ {A : Type 0} where
  -- ---- what stands at a place

  pub there : (xs : List A) (i : ℕ) (d : A) → i < length xs → slice_get xs i ≡ Some (get_or xs i d)
  there [] i d h = absurd (not-suc-le-zero h)
  there (x ∷ xs) zero d h = refl
  there (x ∷ xs) (suc i) d h = there xs i d (le_of_suc-le-suc h)

  pub past : (xs : List A) (i : ℕ) → length xs ≤ i → slice_get xs i ≡ None
  past [] i h = refl
  past (x ∷ xs) zero h = absurd (not-suc-le-zero h)
  past (x ∷ xs) (suc i) h = past xs i (le_of_suc-le-suc h)

  -- what is there is the entry of its number
  pub there_only : (xs : List A) (i : ℕ) (x d : A) → slice_get xs i ≡ Some x → (i < length xs) × (get_or xs i d ≡ x)
  there_only [] i x d e = absurd (none-some x e)
  there_only (y ∷ xs) zero x d e = (zero-lt-suc (length xs), same_Some y x e)
  there_only (y ∷ xs) (suc i) x d e = let r = there_only xs i x d e in (suc-le-suc r.0, r.1)

  -- ---- the first that passes: none before it does

  pub place_found : (f : A → Bool) (xs : List A) (i : ℕ) (d : A) → i < length xs → ((k : ℕ) → k < i → f (get_or xs k d) ≡ false)
      → f (get_or xs i d) ≡ true → place f xs ≡ Some i
  place_found f [] i d h b e = absurd (not-suc-le-zero h)
  place_found f (x ∷ xs) zero d h b e = rw e
  place_found f (x ∷ xs) (suc i) d h b e =
      rw (b zero (zero-lt-suc i))
      (ap (option_map suc) (place_found f xs i d (le_of_suc-le-suc h) (λ k l. b (suc k) (suc-le-suc l)) e))

  pub place_missing : (f : A → Bool) (xs : List A) (d : A) → ((k : ℕ) → k < length xs → f (get_or xs k d) ≡ false) → place f xs ≡ None
  place_missing f [] d b = refl
  place_missing f (x ∷ xs) d b =
      rw (b zero (zero-lt-suc (length xs))) (ap (option_map suc) (place_missing f xs d (λ k l. b (suc k) (suc-le-suc l))))

  -- what is found passes
  pub at_place : (f : A → Bool) (xs : List A) (i : ℕ) → place f xs ≡ Some i → (x : A) × (slice_get xs i ≡ Some x) × (f x ≡ true)
  at_place f [] i e = absurd (none-some i e)
  at_place f (x ∷ xs) i e = go (at_place f xs) (f x) refl (place f xs) refl i e
    where
      Found : List A → ℕ → Type 0
      Found xs i = (x : A) × (slice_get xs i ≡ Some x) × (f x ≡ true)

      go : ((k : ℕ) → place f xs ≡ Some k → Found xs k) → (b : Bool) → f x ≡ b → (p : Option ℕ) → place f xs ≡ p
          → (i : ℕ) → cond b (Some 0) (option_map suc p) ≡ Some i → Found (x ∷ xs) i
      go rest true q p r zero e = (x, refl, q)
      go rest true q p r (suc i) e = let z = same_Some 0 (suc i) e in absurd (omega arith)
      go rest false q None r i e = absurd (none-some i e)
      go rest false q (Some k) r zero e = let z = same_Some (suc k) 0 e in absurd (omega arith)
      go rest false q (Some k) r (suc i) e =
          let z = same_Some (suc k) (suc i) e in
          let same : k ≡ i = omega arith in
          rest i (r ∙ ap Some same)

  -- where every entry is of a kind that fails, nothing is found
  pub none_passes : (f p : A → Bool) (xs : List A) → T (all p xs) → ((x : A) → T (p x) → f x ≡ false) → place f xs ≡ None
  none_passes f p [] t b = refl
  none_passes f p (x ∷ xs) t b =
      rw (b x (first (p x) (all p xs) t)) (ap (option_map suc) (none_passes f p xs (second (p x) (all p xs) t) b))

  -- ---- the last that passes: none behind it does

  pub last_missing : (f : A → Bool) (xs : List A) (d : A) → ((k : ℕ) → k < length xs → f (get_or xs k d) ≡ false) → last_place f xs ≡ None
  last_missing f [] d b = refl
  last_missing f (x ∷ xs) d b =
      rw (last_missing f xs d (λ k l. b (suc k) (suc-le-suc l)), b zero (zero-lt-suc (length xs)))

  pub last_found : (f : A → Bool) (xs : List A) (i : ℕ) (d : A) → i < length xs → ((k : ℕ) → i < k → k < length xs → f (get_or xs k d) ≡ false)
      → f (get_or xs i d) ≡ true → last_place f xs ≡ Some i
  last_found f [] i d h b e = absurd (not-suc-le-zero h)
  last_found f (x ∷ xs) zero d h b e = rw (last_missing f xs d (λ k l. b (suc k) (zero-lt-suc k) (suc-le-suc l)), e)
  last_found f (x ∷ xs) (suc i) d h b e =
      rw (last_found f xs i d (le_of_suc-le-suc h) (λ k g l. b (suc k) (suc-le-suc g) (suc-le-suc l)) e)

  -- what a search for the last tells: none passes, or the one found does and none behind it
  abbrev pub Told : (A → Bool) → List A → A → Type 0
  Told f xs d =
      ((last_place f xs ≡ None) × ((k : ℕ) → k < length xs → f (get_or xs k d) ≡ false))
      ⊎ ((i : ℕ) × (last_place f xs ≡ Some i) × (i < length xs) × (f (get_or xs i d) ≡ true)
      × ((k : ℕ) → i < k → k < length xs → f (get_or xs k d) ≡ false))

  pub last_told : (f : A → Bool) (xs : List A) (d : A) → Told f xs d
  last_told f [] d = inl (refl, λ k h. absurd (not-suc-le-zero h))
  last_told f (x ∷ xs) d = go (last_told f xs d) (f x) refl
    where
      behind : (i : ℕ) → ((k : ℕ) → i < k → k < length xs → f (get_or xs k d) ≡ false)
          → (k : ℕ) → suc i < k → k < length (x ∷ xs) → f (get_or (x ∷ xs) k d) ≡ false
      behind i b zero g h = absurd (not-suc-le-zero g)
      behind i b (suc k) g h = b k (le_of_suc-le-suc g) (le_of_suc-le-suc h)

      every : f x ≡ false → ((k : ℕ) → k < length xs → f (get_or xs k d) ≡ false) → (k : ℕ) → k < length (x ∷ xs) → f (get_or (x ∷ xs) k d) ≡ false
      every e b zero h = e
      every e b (suc k) h = b k (le_of_suc-le-suc h)

      after : ((k : ℕ) → k < length xs → f (get_or xs k d) ≡ false) → (k : ℕ) → 0 < k → k < length (x ∷ xs) → f (get_or (x ∷ xs) k d) ≡ false
      after b zero g h = absurd (not-suc-le-zero g)
      after b (suc k) g h = b k (le_of_suc-le-suc h)

      go : Told f xs d → (b : Bool) → f x ≡ b → Told f (x ∷ xs) d
      go (inl (e, b)) true q = inr (0, rw (e, q), zero-lt-suc (length xs), q, after b)
      go (inl (e, b)) false q = inl (rw (e, q), every q b)
      go (inr (i, e, h, t, b)) v q = inr (suc i, rw e, suc-le-suc h, t, behind i b)

  -- ---- the entry that is found

  pub find_found : (f : A → Bool) (xs : List A) (i : ℕ) (d : A) → i < length xs → ((k : ℕ) → k < i → f (get_or xs k d) ≡ false)
      → f (get_or xs i d) ≡ true → find f xs ≡ Some (get_or xs i d)
  find_found f xs i d h b e = ap (entry_at xs) (place_found f xs i d h b e) ∙ there xs i d h

  pub find_missing : (f : A → Bool) (xs : List A) (d : A) → ((k : ℕ) → k < length xs → f (get_or xs k d) ≡ false) → find f xs ≡ None
  find_missing f xs d b = ap (entry_at xs) (place_missing f xs d b)

  all_entry : (p : A → Bool) (xs : List A) (i : ℕ) (x : A) → T (all p xs) → slice_get xs i ≡ Some x → T (p x)
  all_entry p [] i x t e = absurd (none-some x e)
  all_entry p (y ∷ xs) zero x t e = subst (λ (x : A). T (p x)) (same_Some y x e) (first (p y) (all p xs) t)
  all_entry p (y ∷ xs) (suc i) x t e = all_entry p xs i x (second (p y) (all p xs) t) e

  -- what is found passes the test, and keeps the table's rule
  pub find_passes : (f p : A → Bool) (xs : List A) (x : A) → T (all p xs) → find f xs ≡ Some x → (f x ≡ true) × T (p x)
  find_passes f p xs x t e = go (place f xs) refl e
    where
      go : (o : Option ℕ) → place f xs ≡ o → entry_at xs o ≡ Some x → (f x ≡ true) × T (p x)
      go None q e = absurd (none-some x e)
      go (Some i) q e =
          let g = at_place f xs i q in
          (ap f (same_Some _ _ (sym e ∙ g.1)) ∙ g.2, all_entry p xs i x t e)
