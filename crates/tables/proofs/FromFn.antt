-- The array that `array::from_fn` makes, where each call of the closure leaves what it holds as it was.
use mathlib.Core.Path.{◌≡◌, ◌∙◌, subst}
use mathlib.Core.List.{List}
use mathlib.Core.Logic.{⊎_elim}
use Prim.Native.Nat.{ℕ, zero, suc, ◌+◌, ◌≤◌, ◌<◌}
use native.Mathlib.Nat.{eq-or-lt_of_le}
use native.Mathlib.Omega.{arith}
use lib.ListN.{get_or}
use denote.Param.Members.{Mut, Called}
use Rattle.std.proofs.Common.{zero-le}
use Rattle.std.specs.Array.{IsFromFnResult, IsFromFnResultFrom}
use Rattle.tables.specs.Listed.{tabulate}
use Rattle.tables.proofs.Listed.{listed}

-- a call at a number below n gives h of it
abbrev pub Gives : {F B : Type 0} → Mut F (ℕ × Unit {0}) B → (ℕ → B) → F → ℕ → Type 0
Gives {F} {B} g h f n = (k : ℕ) (y : B) (q : F) → k < n → Called g f (k, tt) y q → (q ≡ f) × (y ≡ h k)

each_entry : {F B : Type 0} (g : Mut F (ℕ × Unit {0}) B) (h : ℕ → B) (f : F) (ys : List B) (i n : ℕ) → Gives g h f (i + n) → IsFromFnResultFrom g f ys i n
    → (k : ℕ) (d : B) → i ≤ k → k < i + n → get_or ys k d ≡ h k
each_entry g h f ys i zero p r k d l m = absurd (omega arith)
each_entry {F} g h f ys i (suc n) p r k d l m =
    let y = r.1 in
    let z = p i y r.0 (omega arith) r.3 in
    ⊎_elim
    (λ e. subst (λ (j : ℕ). get_or ys j d ≡ h j) e (r.2.1 d ∙ z.1))
    (λ b. each_entry g h f ys (i + 1) n (λ j x q o. p j x q (omega arith)) (subst (λ (t : F). IsFromFnResultFrom g t ys (i + 1) n) z.0 r.4) k d (omega arith) (omega arith))
    (eq-or-lt_of_le l)

pub tabulated_from_fn : {F B : Type 0} {g : Mut F (ℕ × Unit {0}) B} (h : ℕ → B) {f : F} (n : ℕ) (d : B) (ys : List B) → IsFromFnResult g f ys n → Gives g h f n
    → ys ≡ tabulate n h
tabulated_from_fn {F} {B} {g} h {f} n d ys r p =
    listed n h d ys r.long (λ k l. each_entry g h f ys 0 n (λ j y q o. p j y q (omega arith)) r.each k d zero-le (omega arith))
