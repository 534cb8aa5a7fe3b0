-- A decimal number by one division: digits below 10 ^ 15 and powers of ten up to 10 ^ 15 are exact in binary64, so only the quotient is rounded.
use Rattle.std.proofs.Common.{◌≡◌, ℕ, ◌+◌, ◌*◌, ◌^◌, ◌<◌, ◌≤◌, Bool, true, false, cond, ◌&&◌, leb, List, ◌++◌, length, pos, min, refl, sym, ap, ◌∙◌, mul-pos, arith, length-append, ne_eqb, leb-true, leb-false}
use Rattle.std.specs.Prelude.{Some, None}
use native.Mathlib.Nat.{pow-le-pow_right}
use lib.Ieee.{Float, nan, inf, fin, binary64, up, down, round, div, of_int}
use lib.Ieee.Exact.{HasValue}
use lib.Ieee.Back.{round_whole}
use lib.Ieee.Fits.{down_pos}
use lib.Ieee.Scale.{round_same}
use borrow.Author.Tests.{lt-leb}
use Rattle.tables.specs.Decimal.{decimal}
use Rattle.plan_text.specs.Digits.{digits, numeral, number_to}
use Rattle.plan_text.proofs.ByteLaws.{both}
use Rattle.plan_text.proofs.DigitLaws.{ten_pos, digits_append, numeral_append, numeral_less, read_told, unread_told}
use Rattle.plan_ratios.specs.Ratio.{few, pointed}

-- the quotient of two whole numbers that are exact
quotient : (x y : Float) (n d : ℕ) → 0 < d → HasValue x false n 1 → HasValue y false d 1 → div binary64 x y ≡ round binary64 false n d
unfolding div
quotient nan y n d p v w = absurd v
quotient (inf s) y n d p v w = absurd v
quotient (fin s m e) nan n d p v w = absurd w
quotient (fin s m e) (inf t) n d p v w = absurd w
quotient (fin s m e) (fin t k f) n d p v w =
    let more : 0 < d * down f = mul-pos p (down_pos f) in
    let kept : k ≡ 0 → ⊥ = λ (z : k ≡ 0). let u : 0 * up f * 1 ≡ d * down f = rw z at w.1 in omega arith in
    let M : m * up e ≡ n * down e = omega (arith, v.1) in
    let K : k * up f ≡ d * down f = omega (arith, w.1) in
    rw (v.0, w.0, ne_eqb k 0 kept, M, K)
    (round_same binary64 false (n * down e * down f) (d * down f * down e) n d (mul-pos more (down_pos e)) p (omega arith))

pub whole_quotient : (n d : ℕ) → n ≤ 2 ^ 53 → 0 < d → d ≤ 2 ^ 53
    → div binary64 (of_int binary64 (pos n)) (of_int binary64 (pos d)) ≡ round binary64 false n d
unfolding of_int
whole_quotient n d h p g =
    quotient (round binary64 false n 1) (round binary64 false d 1) n d p (round_whole binary64 false n h) (round_whole binary64 false d g)

-- 10 ^ n for n up to 15
pub tens : (n : ℕ) → n ≤ 15 → 10 ^ n ≤ 10 ^ 15
tens n h = pow-le-pow_right (omega arith) h

pub one_division : (n places : ℕ) → n < 10 ^ 15 → places ≤ 15
    → div binary64 (of_int binary64 (pos n)) (of_int binary64 (pos (10 ^ places))) ≡ decimal places n
unfolding decimal
one_division n places h g =
    let t = tens places g in
    whole_quotient n (10 ^ places) (omega arith) (ten_pos places) (omega arith)

-- ---- a number in two parts

module _ (a b : List ℕ) where
  pub pointed_unfew : few (length a + length b) ≡ false → pointed a b ≡ None
  unfolding pointed
  pointed_unfew h = rw (length-append a b, h)

  pub pointed_undigit : digits a && digits b ≡ false → pointed a b ≡ None
  unfolding pointed
  pointed_undigit h = rw (digits_append a b, h) (go (few (length (a ++ b))))
    where
      go : (t : Bool) → cond (t && false) (Some (decimal (length b) (numeral (a ++ b)))) None ≡ None
      go true = refl
      go false = refl

  pub pointed_read : few (length a + length b) ≡ true → digits a ≡ true → digits b ≡ true
      → pointed a b ≡ Some (decimal (length b) (numeral a * 10 ^ length b + numeral b))
  unfolding pointed
  pointed_read h f g = rw (length-append a b, h, digits_append a b, f, g, numeral_append a b)

  pub pointed_less : few (length a + length b) ≡ true → digits a ≡ true → digits b ≡ true
      → (length b ≤ 15) × (numeral a * 10 ^ length b + numeral b < 10 ^ 15)
  unfolding few
  pointed_less h f g =
      let n = length a + length b in
      let l : n ≤ 15 = leb-true n 15 (both (leb 1 n) (leb n 15) h).1 in
      let d : digits (a ++ b) ≡ true = rw (digits_append a b, f) g in
      let u = numeral_less (a ++ b) d in
      let v : 10 ^ length (a ++ b) ≤ 10 ^ 15 = tens (length (a ++ b)) (omega (arith, length-append a b)) in
      let w = numeral_append a b in
      (omega arith, omega arith)

few_most : (a b : ℕ) → few (a + b) ≡ true → (a ≤ 15) × (b ≤ 15)
unfolding few
few_most a b h =
    let n = a + b in
    let l : n ≤ 15 = leb-true n 15 (both (leb 1 n) (leb n 15) h).1 in
    (omega arith, omega arith)

abbrev most : ℕ
most = 999_999_999_999_999

-- what the reading of the two parts tells
module _ (a b : List ℕ) (h : few (length a + length b) ≡ true) where
  short : (bs : List ℕ) → length bs ≤ 15 → number_to most bs ≡ None → digits bs ≡ false
  short bs l = unread_told most bs (tens (length bs) l)

  pub front_unread : number_to most a ≡ None → pointed a b ≡ None
  front_unread e = pointed_undigit a b (rw (short a (few_most (length a) (length b) h).0 e))

  module _ (w : ℕ) (front : number_to most a ≡ Some w) where
    pub back_unread : number_to most b ≡ None → pointed a b ≡ None
    back_unread e =
        pointed_undigit a b (rw ((read_told most w a front).0, short b (few_most (length a) (length b) h).1 e))

    module _ (f : ℕ) (back : number_to most b ≡ Some f) where
      pub parts_less : (length b ≤ 15) × (w * 10 ^ length b + f < 10 ^ 15)
      parts_less =
          let p = read_told most w a front in
          let q = read_told most f b back in
          rw (← p.1, ← q.1) (pointed_less a b h p.0 q.0)

      pub parts_read : pointed a b ≡ Some (decimal (length b) (w * 10 ^ length b + f))
      parts_read =
          let p = read_told most w a front in
          let q = read_told most f b back in
          rw (← p.1, ← q.1) (pointed_read a b h p.0 q.0)

pub many : (n : ℕ) → 15 < n → few n ≡ false
unfolding few
many n h = rw (lt-leb n 15 h) (go (leb 1 n))
  where
    go : (t : Bool) → t && false ≡ false
    go true = refl
    go false = refl

-- a count that stops at the largest number of 64 bits
pub capped : (n r : ℕ) → r ≡ min n 18_446_744_073_709_551_615 → few r ≡ few n
capped n r e = go (leb n 15) refl
  where
    go : (t : Bool) → leb n 15 ≡ t → few r ≡ few n
    go true h = let l = leb-true n 15 h in let z : r ≡ n = omega arith in ap few z
    go false h = let l = leb-false n 15 h in many r (omega arith) ∙ sym (many n (omega arith))
