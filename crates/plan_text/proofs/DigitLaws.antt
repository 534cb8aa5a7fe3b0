-- Laws of numbers in decimal digits.
use mathlib.Core.Path.{◌≡◌, refl, sym}
use mathlib.Core.Bool.{Bool, true, false, cond, ◌&&◌}
use mathlib.Core.List.{List, [], ◌∷◌, ◌++◌}
use Rattle.std.specs.Prelude.{Option, Some, None}
use Rattle.std.proofs.lemmas.Option.{same_Some, none-some}
use Prim.Native.Nat.{ℕ, zero, suc, ◌+◌, ◌-◌, ◌*◌, ◌^◌, ◌≤◌, ◌<◌}
use native.Mathlib.Nat.{pow-suc, mul-le-mul_left, mul-le-mul_right}
use native.Mathlib.Omega.{arith}
use lib.Dec.{leb}
use native.Mathlib.Numerals.{add-one}
use lib.ListN.{length, get_or, drop, length-append, drop_of_length-le}
use lib.Seq.{drop-cons}
use lib.Pow.{pow-add}
use borrow.Author.Tests.{le-leb, lt-leb, leb-true, leb-false}
use Rattle.plan_text.specs.Digits.{digit, digits, numeral, number_to}
use Rattle.plan_text.proofs.ByteLaws.{both}

-- 10 ^ n is not 0
pub ten_pos : (n : ℕ) → 1 ≤ 10 ^ n
ten_pos zero = omega arith
ten_pos (suc n) = let h = ten_pos n in rw (pow-suc 10 n) (omega arith)

-- ---- reading from the first digit on: what is read, with `n` the number of the digits before

unfoldable pub from : ℕ → ℕ → List ℕ → Option ℕ
from most n bs = cond (digits bs && leb (n * 10 ^ length bs + numeral bs) most) (Some (n * 10 ^ length bs + numeral bs)) None

module _ (most n : ℕ) where
  pub from_digit : (b : ℕ) (bs : List ℕ) → digit b ≡ true → from most n (b ∷ bs) ≡ from most (n * 10 + (b - 48)) bs
  unfolding from
  from_digit b bs h =
      let e : n * 10 ^ suc (length bs) + ((b - 48) * 10 ^ length bs + numeral bs) ≡ (n * 10 + (b - 48)) * 10 ^ length bs + numeral bs =
      rw (pow-suc 10 (length bs)) (omega arith) in
      rw (h, e)

  pub from_other : (b : ℕ) (bs : List ℕ) → digit b ≡ false → from most n (b ∷ bs) ≡ None
  unfolding from
  from_other b bs h = rw h

  pub from_over : (bs : List ℕ) → most < n → from most n bs ≡ None
  unfolding from
  from_over bs h =
      let g : n * 1 ≤ n * 10 ^ length bs = mul-le-mul_left n (ten_pos (length bs)) in
      rw (lt-leb (n * 10 ^ length bs + numeral bs) most (omega arith)) (go (digits bs))
    where
      go : (b : Bool) → cond (b && false) (Some (n * 10 ^ length bs + numeral bs)) None ≡ None
      go true = refl
      go false = refl

  pub from_end : n ≤ most → from most n [] ≡ Some n
  unfolding from
  from_end h =
      let e : n * 10 ^ 0 + 0 ≡ n = omega arith in
      rw (e, le-leb n most h)

pub from_start : (most : ℕ) (bs : List ℕ) → number_to most bs ≡ from most 0 bs
unfolding number_to from
from_start most bs = let e : 0 * 10 ^ length bs + numeral bs ≡ numeral bs = omega arith in rw e

pub digit_range : (b : ℕ) → digit b ≡ true → (48 ≤ b) × (b ≤ 57)
digit_range b h = let p = both (leb 48 b) (leb b 57) h in (leb-true 48 b p.0, leb-true b 57 p.1)

-- the same at a place of a text
module _ (most n : ℕ) (text : List ℕ) (i : ℕ) where
  pub next_digit : i < length text → digit (get_or text i 0) ≡ true
      → from most n (drop i text) ≡ from most (n * 10 + (get_or text i 0 - 48)) (drop (i + 1) text)
  next_digit h e = rw (add-one i, drop-cons text i 0 h) (from_digit most n (get_or text i 0) (drop (suc i) text) e)

  pub next_other : i < length text → digit (get_or text i 0) ≡ false → from most n (drop i text) ≡ None
  next_other h e = rw (drop-cons text i 0 h) (from_other most n (get_or text i 0) (drop (suc i) text) e)

  pub at_end : length text ≤ i → n ≤ most → from most n (drop i text) ≡ Some n
  at_end h l = rw (drop_of_length-le text h) (from_end most n l)

-- ---- two texts of digits, one behind the other

pub digits_append : (a b : List ℕ) → digits (a ++ b) ≡ digits a && digits b
digits_append [] b = refl
digits_append (x ∷ a) b = go (digit x) (digits_append a b)
  where
    go : (t : Bool) → digits (a ++ b) ≡ digits a && digits b → t && digits (a ++ b) ≡ (t && digits a) && digits b
    go true h = h
    go false h = refl

pub numeral_append : (a b : List ℕ) → numeral (a ++ b) ≡ numeral a * 10 ^ length b + numeral b
numeral_append [] b = omega arith
numeral_append (x ∷ a) b =
    rw (length-append a b, pow-add 10 (length a) (length b), numeral_append a b) (omega arith)

pub numeral_less : (a : List ℕ) → digits a ≡ true → numeral a < 10 ^ length a
numeral_less [] h = omega arith
numeral_less (x ∷ a) h =
    let p = both (digit x) (digits a) h in
    let r = digit_range x p.0 in
    let l = numeral_less a p.1 in
    let g : (x - 48) * 10 ^ length a ≤ 9 * 10 ^ length a = mul-le-mul_right (10 ^ length a) (omega arith) in
    rw (pow-suc 10 (length a)) (omega arith)

-- ---- what a number that is read tells of its digits

pub read_told : (most n : ℕ) (bs : List ℕ) → number_to most bs ≡ Some n → (digits bs ≡ true) × (numeral bs ≡ n)
unfolding number_to
read_told most n bs = go (digits bs) (leb (numeral bs) most)
  where
    go : (d l : Bool) → cond (d && l) (Some (numeral bs)) None ≡ Some n → (d ≡ true) × (numeral bs ≡ n)
    go true true e = (refl, same_Some _ _ e)
    go true false e = absurd (none-some n e)
    go false l e = absurd (none-some n e)

-- it is at most the most
pub read_most : (most n : ℕ) (bs : List ℕ) → number_to most bs ≡ Some n → n ≤ most
unfolding number_to
read_most most n bs = go (digits bs) (leb (numeral bs) most) refl
  where
    go : (d l : Bool) → leb (numeral bs) most ≡ l → cond (d && l) (Some (numeral bs)) None ≡ Some n → n ≤ most
    go true true g e = let z = same_Some _ _ e in let h = leb-true (numeral bs) most g in omega arith
    go true false g e = absurd (none-some n e)
    go false l g e = absurd (none-some n e)

-- a number that is small enough is missing only where a byte is not a digit
pub unread_told : (most : ℕ) (bs : List ℕ) → 10 ^ length bs ≤ most + 1 → number_to most bs ≡ None → digits bs ≡ false
unfolding number_to
unread_told most bs h = go (digits bs) refl
  where
    go : (d : Bool) → digits bs ≡ d → cond (d && leb (numeral bs) most) (Some (numeral bs)) None ≡ None → d ≡ false
    go true g e =
        let l = numeral_less bs g in
        let z : Some (numeral bs) ≡ None = rw (le-leb (numeral bs) most (omega arith)) at e in
        absurd (none-some _ (sym z))
    go false g e = refl

-- ---- a lower limit

module _ (most less : ℕ) (bs : List ℕ) where
  pub read_less : (n : ℕ) → number_to most bs ≡ Some n → number_to less bs ≡ cond (leb n less) (Some n) None
  unfolding number_to
  read_less n e = let p = read_told most n bs e in rw (p.0, p.1)

  pub unread_less : less ≤ most → number_to most bs ≡ None → number_to less bs ≡ None
  unfolding number_to
  unread_less h = go (digits bs) (leb (numeral bs) most) refl
    where
      go : (d l : Bool) → leb (numeral bs) most ≡ l → cond (d && l) (Some (numeral bs)) None ≡ None
          → cond (d && leb (numeral bs) less) (Some (numeral bs)) None ≡ None
      go true true g e = absurd (none-some _ (sym e))
      go true false g e = let z = leb-false (numeral bs) most g in rw (lt-leb (numeral bs) less (omega arith))
      go false l g e = refl
