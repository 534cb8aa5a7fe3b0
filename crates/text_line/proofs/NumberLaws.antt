-- Laws of a number's digits.
use mathlib.Core.Path.{◌≡◌, sym, ap, ◌∙◌}
use mathlib.Core.List.{List, [], ◌∷◌, ◌++◌}
use mathlib.Core.Bool.{Bool, true, false, cond}
use Prim.Native.Nat.{ℕ, zero, suc, ◌+◌, ◌/◌, ◌%◌, ◌^◌, ◌≤◌, ◌<◌}
use native.Mathlib.Nat.{pow-suc}
use native.Mathlib.Omega.{arith}
use lib.Dec.{ltb}
use lib.ListN.{length, length-append}
use borrow.Author.Tests.{lt-ltb, le-ltb}
use Rattle.std.proofs.Common.{mod-eq_of_lt, inl, inr}
use Rattle.std.proofs.lemmas.Bool.{cases_lt}
use Rattle.std.proofs.lemmas.Fmt.{decimal_digit, decimal_step}
use Rattle.std.specs.Fmt.{decimal}
use Rattle.text_line.specs.Number.{digits_of}

one_digit : (n : ℕ) → n < 10 → decimal n ≡ (48 + n % 10) ∷ []
one_digit n h = decimal_digit n h ∙ ap (λ (d : ℕ). (48 + d) ∷ []) (sym (mod-eq_of_lt h))

-- what std prints are the digits
pub printed : (most n : ℕ) → n < 2 ^ 64 → n < 10 ^ suc most → decimal n ≡ digits_of (suc most) n
unfolding digits_of
printed zero n w h = rw (lt-ltb n 10 h) (one_digit n h)
printed (suc most) n w h =
    let e = pow-suc 10 (suc most) in
    elim (cases_lt n 10) [
      | inl small ↦ rw (lt-ltb n 10 small) (one_digit n small)
      | inr large ↦ rw (le-ltb n 10 large) (decimal_step n large w ∙ ap (λ (t : List ℕ). t ++ ((48 + n % 10) ∷ [])) (printed most (n / 10) (omega arith) (omega arith)))
    ]

-- a number has no more digits than it may have
pub few_digits : (most n : ℕ) → length (digits_of most n) ≤ most
unfolding digits_of
few_digits zero n = omega arith
few_digits (suc most) n = go (ltb n 10) (few_digits most (n / 10))
  where
    go : (b : Bool) → length (digits_of most (n / 10)) ≤ most → length (cond b [] (digits_of most (n / 10)) ++ ((48 + n % 10) ∷ [])) ≤ suc most
    go true p = omega arith
    go false p = simp length-append (omega arith)
