-- The class that each test of the code leads to, by the cases of the definition; and the difference of two bytes in 16 bits.
use Prim.Native.Nat.{ℕ, zero, suc, ◌-◌, ◌<◌}
use mathlib.Core.Path.{◌≡◌, refl, sym, ap}
use mathlib.Core.Bool.{Bool, true, false, cond, false≢true, true≢false}
use native.Mathlib.Omega.{arith}
use borrow.Author.Tests.{ltb-true, leb-false}
use lib.Dec.{ltb}
use lib.IntN.{ℤ, pos, negsuc, ◌-ℤ◌}
use lib.Signed.{le_z, lt_z, mag}
use mir.Syntax.{w16}
use mir.Val.{SFits, to_z, of_z}
use mir.Facts.{to_z-of_z}
use Rattle.encoder_scfsi.specs.declared.DifferenceClass.TheVariants.{Class1, Class2, Class3, Class4, Class5}
use Rattle.encoder_scfsi.specs.Class.{difference_class}

-- a test of a number's 16 bits, read as signed, is a test of the number
pub as_read : (p : ℤ → Bool) (d : ℤ) → SFits w16 d → p d ≡ p (to_z w16 (of_z w16 d))
as_read p d h = ap p (sym (to_z-of_z h))

pub class_1 : (d : ℤ) → le_z d (negsuc 2) ≡ true → Class1 ≡ difference_class d
unfolding difference_class
class_1 (pos n) e = absurd (false≢true e)
class_1 (negsuc zero) e = absurd (false≢true e)
class_1 (negsuc (suc zero)) e = absurd (false≢true e)
class_1 (negsuc (suc (suc n))) e = refl

pub class_2 : (d : ℤ) → le_z d (negsuc 2) ≡ false → lt_z d (pos 0) ≡ true → Class2 ≡ difference_class d
unfolding difference_class
class_2 (pos n) e f = let l = ltb-true n 0 f in absurd (omega arith)
class_2 (negsuc zero) e f = refl
class_2 (negsuc (suc zero)) e f = refl
class_2 (negsuc (suc (suc n))) e f = let l = leb-false 2 (suc (suc n)) e in absurd (omega arith)

pub class_3 : (d : ℤ) → lt_z d (pos 0) ≡ false → of_z w16 d ≡ 0 → Class3 ≡ difference_class d
unfolding difference_class
class_3 (pos zero) e z = refl
class_3 (pos (suc n)) e z = absurd (omega arith)
class_3 (negsuc n) e z = absurd (true≢false e)

pub class_4 : (d : ℤ) → lt_z d (pos 0) ≡ false → (of_z w16 d ≡ 0 → ⊥) → lt_z d (pos 3) ≡ true → Class4 ≡ difference_class d
unfolding difference_class
class_4 (pos zero) e z f = absurd (z refl)
class_4 (pos (suc zero)) e z f = refl
class_4 (pos (suc (suc zero))) e z f = refl
class_4 (pos (suc (suc (suc n)))) e z f = let l = ltb-true (suc (suc (suc n))) 3 f in absurd (omega arith)
class_4 (negsuc n) e z f = absurd (true≢false e)

pub class_5 : (d : ℤ) → lt_z d (pos 3) ≡ false → Class5 ≡ difference_class d
unfolding difference_class
class_5 (pos zero) e = absurd (true≢false e)
class_5 (pos (suc zero)) e = absurd (true≢false e)
class_5 (pos (suc (suc zero))) e = absurd (true≢false e)
class_5 (pos (suc (suc (suc n)))) e = refl
class_5 (negsuc n) e = absurd (true≢false e)

-- ---- the difference of two bytes

either : (t : Bool) (m n k : ℕ) → m < k → n < k → mag (cond t (negsuc m) (pos n)) < k
either true m n k h g = h
either false m n k h g = g

difference_fits : (a b : ℕ) → a < 256 → b < 256 → SFits w16 (pos a -ℤ pos b)
difference_fits a zero h g = record { sfits = omega arith }
difference_fits a (suc b) h g = record { sfits = either (ltb a (suc b)) (suc b - suc a) (a - suc b) _ (omega arith) (omega arith) }

-- a byte's 16 bits, read as signed, are the byte
byte : (a : ℕ) → a < 256 → to_z w16 a ≡ pos a
byte a h = to_z-of_z {w = w16} {z = pos a} (record { sfits = omega arith })

module _ (a b : ℕ) (h : a < 256) (g : b < 256) where
  pub bytes_fit : SFits w16 (to_z w16 a -ℤ to_z w16 b)
  bytes_fit = rw (byte a h, byte b g) (difference_fits a b h g)

  pub bytes_read : to_z w16 (of_z w16 (to_z w16 a -ℤ to_z w16 b)) ≡ pos a -ℤ pos b
  bytes_read = rw (byte a h, byte b g) (to_z-of_z (difference_fits a b h g))
