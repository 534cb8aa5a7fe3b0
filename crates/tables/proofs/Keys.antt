-- What an arm of a `match` on a number tells: that the number is one of the arm's keys, or none of them.
use mathlib.Core.Path.{◌≡◌, refl, sym, subst}
use mathlib.Core.Bool.{Bool, true, false, ◌||◌, or-true}
use mathlib.Core.Logic.{inl, inr}
use mathlib.Core.List.{List, [], ◌∷◌, ◌++◌}
use Prim.Native.Nat.{ℕ}
use lib.Dec.{T, eqb}
use types.Run.{OneOf}
use borrow.Author.Tests.{eq-eqb, ne_eqb, eqb-true}
use Rattle.tables.specs.Search.{one_of}
use Rattle.tables.proofs.Rule.{first, second, all}

-- what holds of each key
abbrev pub Each : (ℕ → Type 0) → List ℕ → Type 0
Each P [] = Unit {0}
Each P (k ∷ ks) = P k × Each P ks

pub at_key : (P : ℕ → Type 0) (ks : List ℕ) (n : ℕ) → Each P ks → OneOf ks n → P n
at_key P [] n t e = absurd e
at_key P (k ∷ []) n t e = subst P (sym e) t.0
at_key P (k ∷ l ∷ ks) n t (inl e) = subst P (sym e) t.0
at_key P (k ∷ l ∷ ks) n t (inr e) = at_key P (l ∷ ks) n t.1 e

-- one of the keys
pub one_key : (ks : List ℕ) (n : ℕ) → OneOf ks n → one_of ks n ≡ true
unfolding one_of
one_key [] n e = absurd e
one_key (k ∷ []) n e = rw (eq-eqb n k e)
one_key (k ∷ l ∷ ks) n (inl e) = rw (eq-eqb n k e)
one_key (k ∷ l ∷ ks) n (inr e) = rw (one_key (l ∷ ks) n e) (or-true (eqb n k))

-- none of the keys
pub no_key : (ks : List ℕ) (n : ℕ) → (OneOf ks n → ⊥) → one_of ks n ≡ false
unfolding one_of
no_key [] n h = refl
no_key (k ∷ []) n h = rw (ne_eqb n k h)
no_key (k ∷ l ∷ ks) n h = rw (ne_eqb n k (λ e. h (inl e))) (no_key (l ∷ ks) n (λ e. h (inr e)))

neither : (a b : Bool) → a || b ≡ false → (a ≡ false) × (b ≡ false)
neither true b e = absurd (subst T e tt)
neither false b e = (refl, e)

-- none of the keys of two arms
pub no_key_either : (ks ls : List ℕ) (n : ℕ) → one_of ks n ≡ false → one_of ls n ≡ false → one_of (ks ++ ls) n ≡ false
unfolding one_of
no_key_either [] ls n h g = g
no_key_either (k ∷ ks) ls n h g =
    let p = neither (eqb n k) (one_of ks n) h in
    rw p.0 (no_key_either ks ls n p.1 g)

-- what a test says of each number of a list it says of one that is in it
pub of_member : (p : ℕ → Bool) (ks : List ℕ) (n : ℕ) → T (all p ks) → T (one_of ks n) → T (p n)
unfolding one_of
of_member p [] n t h = absurd h
of_member p (k ∷ ks) n t h = go (of_member p ks n (second (p k) (all p ks) t)) (eqb n k) refl h
  where
    go : (T (one_of ks n) → T (p n)) → (b : Bool) → eqb n k ≡ b → T (b || one_of ks n) → T (p n)
    go rest true e h = subst (λ (m : ℕ). T (p m)) (sym (eqb-true n k e)) (first (p k) (all p ks) t)
    go rest false e h = rest h
