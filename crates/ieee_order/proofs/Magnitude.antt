-- The magnitude: a NaN only of a NaN, what std's `f64::abs` answers, and found by comparison with zero.
use mathlib.Core.Path.{◌≡◌, refl}
use mathlib.Core.Bool.{Bool, true, false, ◌||◌, beq, true≢false}
use Prim.Native.Nat.{ℕ, zero, suc, ◌*◌, ◌^◌}
use native.Mathlib.Nat.{mul-pos, zero-lt-suc}
use native.Mathlib.Omega.{arith}
use lib.IntN.{pos, negsuc}
use lib.Dec.{T, eqb, eqb→eq}
use lib.Pow.{pow_pos}
use lib.Ieee.{Float, nan, inf, fin, binary64, up, down, neg, lt, eq, le, fits, is_nan}
use lib.Ieee.Fits.{and_l, up_pos}
use Rattle.std.specs.Float.{float_with_sign}
use Rattle.ieee_order.specs.Order.{abs_of}
use Rattle.ieee_order.proofs.Fraction.{lt→less, most→le}

pub abs_nan : (x : Float) → is_nan (abs_of x) ≡ is_nan x
unfolding abs_of is_nan
abs_nan nan = refl
abs_nan (inf s) = refl
abs_nan (fin s m e) = refl

-- the sign taken off
pub abs_is : (x : Float) → float_with_sign false x ≡ abs_of x
unfolding abs_of float_with_sign
abs_is nan = refl
abs_is (inf s) = refl
abs_is (fin s m e) = refl

-- ---- by comparison: below zero, equal to it, and the rest

pub abs_negative : (x : Float) → T (lt x (fin false 0 (pos 0))) → neg x ≡ abs_of x
unfolding abs_of neg
abs_negative nan h = refl
abs_negative (inf true) h = refl
abs_negative (inf false) h = unfold lt in absurd h
abs_negative (fin true m e) h = refl
abs_negative (fin false m e) h = let k = lt→less (fin false m e) (fin false 0 (pos 0)) tt tt h in absurd (omega arith)

two_power : (k : ℕ) → 2 ^ suc k * 1 ≡ 1 → ⊥
two_power k e = omega (arith, pow_pos k)

pub abs_zero : (x : Float) → T (fits binary64 x) → T (eq x (fin false 0 (pos 0))) → fin false 0 (pos 0) ≡ abs_of x
unfolding abs_of fits eq
abs_zero nan g h = absurd h
abs_zero (inf s) g h = absurd h
abs_zero (fin s zero (pos zero)) g h = refl
abs_zero (fin s zero (pos (suc k))) g h = absurd (two_power k (eqb→eq (2 ^ suc k * 1) 1 g))
abs_zero (fin s zero (negsuc k)) g h = absurd (two_power k (omega (arith, eqb→eq (1 * 2 ^ suc k) 1 g)))
abs_zero (fin s (suc m) e) g h =
    let a : Bool = eqb (suc m * up e * 1) (0 * down e) in
    absurd (omega (arith, eqb→eq (suc m * up e * 1) (0 * down e) (and_l a (beq s false || eqb (suc m * up e * 1) 0) h), mul-pos (zero-lt-suc m) (up_pos e)))

pub abs_positive : (x : Float) → lt x (fin false 0 (pos 0)) ≡ false → eq x (fin false 0 (pos 0)) ≡ false → x ≡ abs_of x
unfolding abs_of
abs_positive nan p q = refl
abs_positive (inf true) p q = unfold lt in absurd (true≢false p)
abs_positive (inf false) p q = refl
abs_positive (fin true m e) p q = absurd (unfold le in (rw (p, q) at (most→le (fin true m e) (fin false 0 (pos 0)) tt tt (omega arith))))
abs_positive (fin false m e) p q = refl
