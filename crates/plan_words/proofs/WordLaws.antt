-- Laws of the words with a number.
use Rattle.std.proofs.Common.{◌≡◌, ℕ, suc, ◌<◌, ◌≤◌, Bool, true, false, true≢false, cond, List, [], ◌∷◌, length, take, drop, leb, eqb, refl, sym, ap, arith, length-take}
use Rattle.std.specs.Prelude.{None, Some, Result, Ok, Err}
use Rattle.std.specs.Result.{OkIff, result_ok}
use Rattle.std.proofs.lemmas.Option.{none-some}
use Rattle.std.proofs.lemmas.Result.{OkIff-at_ok, OkIff-at_err}
use lib.Dec.{lit≤}
use borrow.Author.Tests.{le-leb, lt-leb}
use Rattle.plan_text.specs.Bytes.{same}
use Rattle.plan_text.specs.Digits.{number_to}
use Rattle.plan_text.proofs.ByteLaws.{both}
use Rattle.plan_text.proofs.DigitLaws.{read_most, read_less, unread_less}
use Rattle.plan_words.specs.Word.{number, value_after}

-- ---- a number of 32 bits, from one of fifteen digits

abbrev most : ℕ
most = 999_999_999_999_999

-- as a conversion answers it
pub fits : {E : Type 0} (r : Result ℕ E) (n : ℕ) → OkIff r (n < 4_294_967_296) n → result_ok r ≡ cond (leb n 4_294_967_295) (Some n) None
fits {E} (Ok x) n h =
    let p = OkIff-at_ok {E = E} (Ok x) (n < 4_294_967_296) n x h refl in
    let l : n < 4_294_967_296 = p.0 in
    rw (p.1, le-leb n 4_294_967_295 (omega arith))
fits {E} (Err e) n h =
    let p : n < 4_294_967_296 → ⊥ = OkIff-at_err {E = E} (Err e) (n < 4_294_967_296) n e h refl in
    rw (lt-leb n 4_294_967_295 (omega arith))

module _ (v : List ℕ) (h : eqb (length v) 0 ≡ false) where
  pub unread : None ≡ number_to most v → None ≡ number v
  unfolding number
  unread e = rw h (sym (unread_less most 4_294_967_295 v (lit≤ tt) (sym e)))

  pub read : (n : ℕ) → Some n ≡ number_to most v → cond (leb n 4_294_967_295) (Some n) None ≡ number v
  unfolding number
  read n e = rw h (sym (read_less most 4_294_967_295 v n (sym e)))

-- a number that is read has 32 bits
pub in_32_bits : (v : List ℕ) (n : ℕ) → number v ≡ Some n → n ≤ 4_294_967_295
unfolding number
in_32_bits v n = go (eqb (length v) 0)
  where
    go : (b : Bool) → cond b None (number_to 4_294_967_295 v) ≡ Some n → n ≤ 4_294_967_295
    go true e = absurd (none-some n e)
    go false e = read_most 4_294_967_295 n v e

-- and so has one behind a key
pub value_in_32_bits : (key w : List ℕ) (n : ℕ) → value_after key w ≡ Some n → n ≤ 4_294_967_295
unfolding value_after
value_in_32_bits key w n = go (same (take (length key) w) key)
  where
    go : (b : Bool) → cond b (number (drop (length key) w)) None ≡ Some n → n ≤ 4_294_967_295
    go true e = in_32_bits (drop (length key) w) n e
    go false e = absurd (none-some n e)

-- a word shorter than the key has none behind it
module _ (key w : List ℕ) where
  pub too_short : length w < length key → value_after key w ≡ None
  unfolding value_after
  too_short h = go (same (take (length key) w) key) refl
    where
      equal : (a b : List ℕ) → same a b ≡ true → length a ≡ length b
      equal [] [] e = refl
      equal [] (y ∷ ys) e = absurd (true≢false (sym e))
      equal (x ∷ xs) [] e = absurd (true≢false (sym e))
      equal (x ∷ xs) (y ∷ ys) e = ap suc (equal xs ys (both (eqb x y) (same xs ys) e).1)

      go : (b : Bool) → same (take (length key) w) key ≡ b → cond b (number (drop (length key) w)) None ≡ None
      go true e =
          let z = equal (take (length key) w) key e in
          let l = length-take (length key) w in
          absurd (omega arith)
      go false e = refl
