-- Laws of a list that is made of parts, one for each entry of another: what comes next, and how long it is.
use mathlib.Core.Path.{◌≡◌, refl, sym, ap, ap₂, ◌∙◌}
use mathlib.Core.List.{List, [], ◌∷◌, ◌++◌, flat_map}
use Prim.Native.Nat.{ℕ, ◌+◌, ◌*◌, ◌≤◌, ◌<◌, zero-le}
use native.Mathlib.Nat.{mul-suc}
use native.Mathlib.Numerals.{add-one}
use native.Mathlib.Omega.{arith}
use lib.ListN.{length, get_or, drop, length-append, drop_of_length-le}
use lib.Seq.{drop-cons}
use Rattle.layout.specs.Layout.{sum_over}
use Rattle.side_info.proofs.ListLaws.{Each}

-- ---- from an entry on

module _ {A B : Type 0} (f : A → List B) (xs : List A) (k : ℕ) where
  -- the entry's part is the next
  pub flat_next : (d : A) → k < length xs → flat_map f (drop k xs) ≡ f (get_or xs k d) ++ flat_map f (drop (k + 1) xs)
  unfolding flat_map
  flat_next d h = ap (flat_map f) (drop-cons xs k d h) ∙ ap (λ (n : ℕ). f (get_or xs k d) ++ flat_map f (drop n xs)) (sym (add-one k))

  -- no entry is left
  pub flat_end : length xs ≤ k → flat_map f (drop k xs) ≡ []
  unfolding flat_map
  flat_end h = ap (flat_map f) (drop_of_length-le xs {i = k} h)

-- ---- how long

module _ {A : Type 0} where
  pub length_flat : {B : Type 0} (f : A → List B) (g : A → ℕ) → ((x : A) → length (f x) ≡ g x) → (xs : List A) → length (flat_map f xs) ≡ sum_over g xs
  unfolding flat_map
  length_flat f g e [] = refl
  length_flat f g e (x ∷ xs) = length-append (f x) (flat_map f xs) ∙ ap₂ ◌+◌ (e x) (length_flat f g e xs)

  pub sum_sum : (f g h : A → ℕ) → ((x : A) → f x + g x ≡ h x) → (xs : List A) → sum_over f xs + sum_over g xs ≡ sum_over h xs
  sum_sum f g h e [] = refl
  sum_sum f g h e (x ∷ xs) = let i = sum_sum f g h e xs in let j = e x in omega arith

  pub sum_least : (f g : A → ℕ) (xs : List A) → Each (λ x. f x ≤ g x) xs → sum_over f xs ≤ sum_over g xs
  sum_least f g [] e = zero-le
  sum_least f g (x ∷ xs) e = let i = sum_least f g xs e.1 in let j = e.0 in omega arith

  pub sum_most : (f : A → ℕ) (c : ℕ) → ((x : A) → f x ≤ c) → (xs : List A) → sum_over f xs ≤ c * length xs
  sum_most f c e [] = zero-le
  sum_most f c e (x ∷ xs) = let i = sum_most f c e xs in let j = e x in rw (mul-suc c (length xs)) (omega arith)
