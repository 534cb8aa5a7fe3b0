-- Laws of pages.
use Rattle.std.proofs.Common.{◌≡◌, refl, ap, ◌∙◌, List, [], ◌∷◌, ◌++◌, ℕ, zero, suc, ◌+◌, ◌<◌, length, arith}
use Rattle.std.specs.Prelude.{Option, slice_get}

-- the same page has the same lines
pub moved : {page other : List (List ℕ)} {line : Option (List ℕ)} (n : ℕ) → page ≡ other → line ≡ slice_get page n → line ≡ slice_get other n
moved n e i = i ∙ ap (λ (p : List (List ℕ)). slice_get p n) e

-- a line of two parts is one of the first, or one of the second
module _ {A : Type 0} where
  pub in_front : (a b : List A) (n : ℕ) → n < length a → slice_get (a ++ b) n ≡ slice_get a n
  in_front [] b n h = absurd (omega arith)
  in_front (x ∷ a) b zero h = refl
  in_front (x ∷ a) b (suc n) h = in_front a b n (omega arith)

  pub in_back : (a b : List A) (n k : ℕ) → n ≡ length a + k → slice_get (a ++ b) n ≡ slice_get b k
  in_back [] b n k h = ap (slice_get b) (omega arith)
  in_back (x ∷ a) b zero k h = absurd (omega arith)
  in_back (x ∷ a) b (suc n) k h = in_back a b n k (omega arith)
