-- The whole number nearest to a value below 2 ^ 32, from the whole part of twice the value: doubling is exact, so that part has the value's halves.
use Rattle.std.proofs.Common.{◌≡◌, ℕ, zero, suc, ◌+◌, ◌-◌, ◌*◌, ◌/◌, ◌%◌, ◌^◌, ◌<◌, ◌≤◌, min, Bool, true, false, ◌&&◌, T, eqb, ltb, leb, ℤ, pos, negsuc, sym, refl, ap, ◌∙◌, subst, suc-le-suc, lt_of_lt_of_le, lt_irrefl, mul_assoc, div-lt_iff_lt-mul, lt_of_mul-lt-mul_right, mul-lt-mul_of_pos_right, one-mul, pow-suc, lt_of_not-le, le-div_iff_mul-le, mul-one, mul_right_comm, arith, lit<, lit≤, ltb→lt, lt→ltb, leb→le, pow_pos, pow-add, ltb-false, ltb-true}
use native.Mathlib.Nat.{div-div-eq-div-mul, add-div_right, div-eq_of_lt}
use lib.Pow.{pow-lt}
use lib.Ieee.{Float, nan, inf, fin, binary64, up, down, fits, neg, mul, round, lt, of_bits, to_unsigned}
use lib.Ieee.Digits.{back}
use lib.Ieee.Fits.{and_l, and_r, down_pos}
use lib.Ieee.Exact.{HasValue, round_exact}
use lib.Ieee.Nearest.{div_same}
use lib.Ieee.Positive.{num, den, positive, den_pos, own_value, value→cross, positive_of_value, first_pos, mul_at}
use Rattle.encoder_samples.specs.Samples.{clamped}

-- ---- twice a value

-- 2 ^ e is a multiple of 2 ^ -1074
multiple : (e : ℤ) → down e ≤ 2 ^ 1074 → (j : ℕ) × (up e * 2 ^ 1074 ≡ 2 ^ j * down e)
multiple (pos k) h = (k + 1074, sym (pow-add 2 k 1074) ∙ sym (mul-one _))
multiple (negsuc k) h =
    let l : suc k ≤ 1074 = lt_of_not-le (λ g. lt_irrefl _ (lt_of_lt_of_le (pow-lt (suc-le-suc g)) h)) in
    (1074 - suc k, one-mul _ ∙ ap (λ (i : ℕ). 2 ^ i) (sym (back 1074 (suc k) l)) ∙ pow-add 2 (1074 - suc k) (suc k))

-- so a value above zero is q * 2 ^ j in units of 2 ^ -1074, with q of 53 digits at most
digits : (x : Float) → T (fits binary64 x) → T (positive x) → (q : ℕ) × (j : ℕ) × (q < 2 ^ 53) × (num x * 2 ^ 1074 ≡ q * 2 ^ j * den x)
unfolding fits
digits nan f p = absurd p
digits (inf s) f p = absurd p
digits (fin true m e) f p = absurd p
digits (fin false zero e) f p = absurd p
digits (fin false (suc m) e) f p =
    let f₁ = and_l (eqb (suc m % 2) 1 && ltb (suc m) (2 ^ 53) && leb (down e) (2 ^ 1074)) _ f in
    let g = multiple e (leb→le _ _ (and_r (eqb (suc m % 2) 1 && ltb (suc m) (2 ^ 53)) _ f₁)) in (
      suc m,
      g.0,
      ltb→lt _ _ (and_r (eqb (suc m % 2) 1) _ (and_l (eqb (suc m % 2) 1 && ltb (suc m) (2 ^ 53)) _ f₁)),
      mul_assoc (suc m) (up e) (2 ^ 1074) ∙ ap (λ (i : ℕ). suc m * i) g.1 ∙ sym (mul_assoc (suc m) (2 ^ g.0) (down e)),
    )

-- the float 2.0
abbrev two : Float
two = fin false 1 (pos 1)

twice : (q j : ℕ) → q * 2 ^ suc j ≡ q * 2 ^ j * 2
twice q j = rw (pow-suc 2 j) (omega arith)

both_doubled : (n P a d : ℕ) → n * P ≡ a * d → n * 2 * P ≡ a * 2 * d
both_doubled n P a d e = omega arith

doubled : (x : Float) → T (fits binary64 x) → T (positive x) → num x < 2 ^ 32 * den x
    → HasValue (mul binary64 x two) false (num x * 2) (den x)
doubled x f p s =
    let g = digits x f p in
    let q = g.0 in
    let j = g.1 in
    let l : q * 2 ^ j < 2 ^ 32 * 2 ^ 1074 =
    lt_of_mul-lt-mul_right (den x)
    (rw (← g.3, mul_right_comm (2 ^ 32) (2 ^ 1074) (den x)) (mul-lt-mul_of_pos_right s (pow_pos 1074))) in
    let is : mul binary64 x two ≡ round binary64 false (num x * 2) (den x) =
    mul_at binary64 x two (num x) (den x) 2 1 p tt (den_pos x) (lit< tt) (own_value x p) (refl, refl)
    ∙ ap (round binary64 false (num x * 2)) (mul-one (den x)) in
    rw is
    (round_exact binary64 false (num x * 2) (den x) q (suc j) (den_pos x) g.2
    (rw (twice q j) (lt_of_lt_of_le (mul-lt-mul_of_pos_right l (lit< tt)) (lit≤ tt)))
    (rw (twice q j) (both_doubled (num x) (2 ^ 1074) (q * 2 ^ j) (den x) g.3)))

-- ---- the whole part of a value below 2 ^ 33

-- it is in the range that `truncating_f64_to_u64` asks
asked : (y : Float) → T (positive y) → num y < 2 ^ 33 * den y → T (lt (fin true 1 (pos 0)) y) × T (lt y (fin false 1 (pos 64)))
unfolding lt
asked nan p h = absurd p
asked (inf s) p h = absurd p
asked (fin true m e) p h = absurd p
asked (fin false m e) p h =
    let D = down_pos e in
    (lt→ltb 0 (1 * down e + m * up e * 1) (omega arith), lt→ltb (m * up e * 1) (1 * 2 ^ 64 * down e) (omega arith))

whole_part : (y : Float) → T (positive y) → num y < 2 ^ 33 * den y → (to_unsigned 64 y ≡ num y / den y) × (to_unsigned 64 y < 2 ^ 33)
unfolding to_unsigned
whole_part nan p h = absurd p
whole_part (inf s) p h = absurd p
whole_part (fin true m e) p h = absurd p
whole_part (fin false m e) p h = let l = (div-lt_iff_lt-mul (down_pos e)).1 h in (omega arith, omega arith)

-- half of the halves, rounded up
half_up : (n d : ℕ) → 0 < d → (n * 2 / d + 1) / 2 ≡ (n * 2 + d) / (d * 2)
half_up n d D = ap (λ (i : ℕ). i / 2) (sym (add-div_right (n * 2) D)) ∙ div-div-eq-div-mul (n * 2 + d) d 2

nearest_most : (n d : ℕ) → 0 < d → n < 2 ^ 32 * d → (n * 2 + d) / (d * 2) ≤ 2 ^ 32
nearest_most n d D h =
    let l = (div-lt_iff_lt-mul {k = d * 2} {x = n * 2 + d} {y = 2 ^ 32 + 1} (omega arith)).1 (omega arith) in
    omega arith

nearest_zero : (n d : ℕ) → 0 < d → n ≤ 0 → (n * 2 + d) / (d * 2) ≡ 0
nearest_zero n d D h = div-eq_of_lt (omega arith)

-- ---- the three cases of a value that is compared with 0.0 and 2 ^ 32

-- the two as the code has them
abbrev pub nought : Float
nought = of_bits binary64 0

abbrev pub limit : Float
limit = of_bits binary64 0x41f0_0000_0000_0000

yes : {b : Bool} → b ≡ true → T b
yes h = subst T (sym h) tt

no : {b : Bool} → b ≡ false → T b → ⊥
no h = subst T h

-- NaN, or at most 0
pub at_zero : (x : Float) → lt nought x ≡ false → 0 ≡ clamped (2 ^ 32) 0 x
unfolding lt of_bits clamped
at_zero nan h = refl
at_zero (inf true) h = refl
at_zero (inf false) h = absurd (no h tt)
at_zero (fin true m e) h = omega arith
at_zero (fin false m e) h =
    let z = ltb-false (0 * down e) (m * up e * 1) h in
    let q = nearest_zero (m * up e) (down e) (down_pos e) (omega arith) in
    omega arith

-- 2 ^ 32 or more
pub at_end : (x : Float) → lt nought x ≡ true → lt x limit ≡ false → 2 ^ 32 ≡ clamped (2 ^ 32) 0 x
unfolding lt of_bits clamped
at_end nan h g = absurd (yes h)
at_end (inf true) h g = absurd (yes h)
at_end (inf false) h g = refl
at_end (fin true m e) h g = absurd (yes h)
at_end (fin false m e) h g =
    let D = down_pos e in
    let z = ltb-false (m * up e * 1) (1 * 2 ^ 32 * down e) g in
    let q = (le-div_iff_mul-le {k = down e * 2} {x = 2 ^ 32} {y = m * up e * 2 + down e} (omega arith)).1 (omega arith) in
    omega arith

-- between the two
within : (x : Float) → lt nought x ≡ true → lt x limit ≡ true → T (positive x) × (0 < num x) × (num x < 2 ^ 32 * den x)
unfolding lt of_bits
within nan h g = absurd (yes h)
within (inf true) h g = absurd (yes h)
within (inf false) h g = absurd (yes g)
within (fin true m e) h g = absurd (yes h)
within (fin false m e) h g =
    let z = ltb-true (0 * down e) (m * up e * 1) h in
    let l = ltb-true (m * up e * 1) (1 * 2 ^ 32 * down e) g in
    (lt→ltb 0 m (first_pos m (up e) (omega arith)), omega arith, omega arith)

clamped_is : (x : Float) → T (positive x) → clamped (2 ^ 32) 0 x ≡ min ((num x * 2 + den x) / (den x * 2)) (2 ^ 32)
unfolding clamped
clamped_is nan p = absurd p
clamped_is (inf s) p = absurd p
clamped_is (fin true m e) p = absurd p
clamped_is (fin false m e) p = omega arith

-- there the code truncates 2 x, has a whole number of halves, and halves that rounded up
pub record Near (x y : Float) : Type 0 where
  pub range : T (lt (fin true 1 (pos 0)) y) × T (lt y (fin false 1 (pos 64)))
  pub small : to_unsigned 64 y < 2 ^ 33
  pub whole : (to_unsigned 64 y + 1) / 2 ≡ clamped (2 ^ 32) 0 x
  pub most : (to_unsigned 64 y + 1) / 2 ≤ 2 ^ 32

pub near : (x : Float) → T (fits binary64 x) → lt nought x ≡ true → lt x limit ≡ true → Near x (mul binary64 x (of_bits binary64 0x4000_0000_0000_0000))
unfolding of_bits
near x f h g =
    let w = within x h g in
    let y = mul binary64 x two in
    let v : HasValue y false (num x * 2) (den x) = doubled x f w.0 w.2 in
    let c = value→cross y (num x * 2) (den x) v in
    let p : T (positive y) = positive_of_value y (num x * 2) (den x) v (omega (arith, w.1)) in
    let l : num y < 2 ^ 33 * den y =
    lt_of_mul-lt-mul_right (den x)
    (rw (c, mul_right_comm (2 ^ 33) (den y) (den x))
    (mul-lt-mul_of_pos_right {m = num x * 2} {n = 2 ^ 33 * den x} (omega (arith, w.2)) (den_pos y))) in
    let u = whole_part y p l in
    let e : (to_unsigned 64 y + 1) / 2 ≡ (num x * 2 + den x) / (den x * 2) =
    ap (λ (i : ℕ). (i + 1) / 2) (u.0 ∙ div_same (num y) (den y) (num x * 2) (den x) (den_pos y) (den_pos x) c)
    ∙ half_up (num x) (den x) (den_pos x) in
    let m = nearest_most (num x) (den x) (den_pos x) w.2 in
    record { range = asked y p l; small = u.1; whole = rw (e, clamped_is x w.0) (omega arith); most = rw e m }

-- ---- a value counted from -h as 0, with r the whole number nearest to its magnitude: h - r or h + r

module _ (last h r : ℕ) where
  pub below_middle : (v : Float) → h < 2 ^ 32 → lt v nought ≡ true → r ≡ clamped (2 ^ 32) 0 (neg v) → clamped last h v ≡ min (h - r) last
  unfolding lt of_bits neg clamped
  below_middle nan H t R = absurd (yes t)
  below_middle (inf true) H t R = omega arith
  below_middle (inf false) H t R = absurd (yes t)
  below_middle (fin true m e) H t R = omega arith
  below_middle (fin false m e) H t R = let z = ltb-true (m * up e * 1) (0 * down e) t in absurd (omega arith)

  pub above_middle : (v : Float) → last < 2 ^ 32 → lt v nought ≡ false → r ≡ clamped (2 ^ 32) 0 v → clamped last h v ≡ min (h + r) last
  unfolding lt of_bits clamped
  above_middle nan L t R = omega arith
  above_middle (inf true) L t R = absurd (no t tt)
  above_middle (inf false) L t R = omega arith
  above_middle (fin true m e) L t R =
      let z = ltb-false 0 (m * up e * 1 + 0 * down e) t in
      let q = nearest_zero (m * up e) (down e) (down_pos e) (omega arith) in
      omega arith
  above_middle (fin false m e) L t R = omega arith
