-- Sums over the fields of a layout, one field after the other, and by subband.
use mathlib.Core.Path.{◌≡◌, sym, ap, ap₂, ◌∙◌}
use mathlib.Core.Bool.{Bool, true, false, cond}
use mathlib.Core.List.{List, [], ◌∷◌, ◌++◌}
use Prim.Native.Nat.{ℕ, zero, suc, ◌+◌, ◌*◌, ◌≤◌, ◌<◌}
use native.Mathlib.Nat.{not-suc-le-zero, le_of_suc-le-suc}
use native.Mathlib.Numerals.{add-one}
use native.Mathlib.Omega.{arith}
use lib.Dec.{ltb, eqb, lit≤}
use lib.ListN.{length, take}
use lib.Seq.{take_all}
use Rattle.layout.specs.declared.Layout.{Layout}
use Rattle.layout.specs.declared.AllocationField.{AllocationField}
use Rattle.layout.specs.Layout.{own, shared, fields_at, field_in, sum_over}

pub sum_append : {A : Type 0} (f : A → ℕ) (xs ys : List A) → sum_over f (xs ++ ys) ≡ sum_over f xs + sum_over f ys
sum_append f [] ys = omega arith
sum_append f (x ∷ xs) ys = let e = sum_append f xs ys in omega arith

-- ---- field after field, as a loop adds them up

-- up to an entry
pub one_more : (f : AllocationField → ℕ) (xs : List AllocationField) (n : ℕ) → n < length xs
    → sum_over f (take (suc n) xs) ≡ sum_over f (take n xs) + f (field_in xs n)
one_more f [] n h = absurd (not-suc-le-zero h)
one_more f (x ∷ xs) zero h = omega arith
one_more f (x ∷ xs) (suc n) h = let e = one_more f xs n (le_of_suc-le-suc h) in omega arith

module _ (f : AllocationField → ℕ) (xs : List AllocationField) (n bits : ℕ) (so_far : bits ≡ sum_over f (take n xs)) where
  -- the next field is added
  pub added : (x : AllocationField) (more : ℕ) → n < length xs → x ≡ field_in xs n → more ≡ f x → bits + more ≡ sum_over f (take (n + 1) xs)
  added x more h e m =
      ap₂ ◌+◌ so_far (m ∙ ap f e) ∙ sym (one_more f xs n h) ∙ ap (λ (k : ℕ). sum_over f (take k xs)) (sym (add-one n))

  -- no field is left
  pub summed : length xs ≤ n → bits ≡ sum_over f xs
  summed h = so_far ∙ ap (sum_over f) (take_all n xs h)

-- ---- by subband

-- a number of the subband is counted once a field
pub counted : (g : ℕ → ℕ) (l : Layout) (sb : ℕ) → sum_over (λ x. g x.subband) (fields_at l sb) ≡ length (fields_at l sb) * g sb
counted g l sb = go (eqb l.channels 1) (ltb sb l.bound)
  where
    fields : Bool → Bool → List AllocationField
    fields one below = cond one (own sb 0 ∷ []) (cond below (own sb 0 ∷ own sb 1 ∷ []) (shared sb ∷ []))

    go : (one below : Bool) → sum_over (λ x. g x.subband) (fields one below) ≡ length (fields one below) * g sb
    go true below = omega arith
    go false true = omega arith
    go false false = omega arith

-- a subband has two at most
pub two_at_most : (l : Layout) (sb : ℕ) → length (fields_at l sb) ≤ 2
two_at_most l sb = go (eqb l.channels 1) (ltb sb l.bound)
  where
    go : (one below : Bool) → length (cond one (own sb 0 ∷ []) (cond below (own sb 0 ∷ own sb 1 ∷ []) (shared sb ∷ []))) ≤ 2
    go true below = lit≤ tt
    go false true = lit≤ tt
    go false false = lit≤ tt
