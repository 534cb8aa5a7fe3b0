-- The three kinds of figures, as the code tells them apart.
use mathlib.Core.Path.{◌≡◌, refl, sym, subst}
use mathlib.Core.Bool.{Bool, true, false, cond, ◌&&◌}
use mathlib.Core.List.{◌++◌}
use Prim.Native.Nat.{ℕ, ◌/◌, ◌≤◌}
use native.Mathlib.Omega.{arith}
use lib.Dec.{T, ltb}
use lib.Ieee.{Float, nan, inf, fin, binary64, lt, eq, of_bits}
use lib.ListN.{length, length-append}
use Rattle.ieee_order.specs.Order.{abs_of}
use Rattle.plan_text.specs.Quoted.{text}
use Rattle.text_line.specs.Number.{number_text}
use Rattle.text_line.specs.Decibels.{minus_text, hundredths_of, hundredths_text, finite_text, decibels_text}
use Rattle.text_line.proofs.NumberLaws.{few_digits}

-- the two as the code has them
abbrev pub nought : Float
nought = of_bits binary64 0

abbrev pub infinity : Float
infinity = of_bits binary64 0x7ff0_0000_0000_0000

never : false ≡ true → ⊥
never h = subst T (sym h) tt

pub is_finite : (x : Float) → lt (abs_of x) infinity ≡ true → decibels_text x ≡ finite_text (lt x nought) (hundredths_of (abs_of x))
unfolding lt abs_of of_bits decibels_text
is_finite nan h = absurd (never h)
is_finite (inf s) h = absurd (never h)
is_finite (fin s m e) h = refl

pub is_infinite : (x : Float) → lt (abs_of x) infinity ≡ false → eq (abs_of x) infinity ≡ true → decibels_text x ≡ minus_text (lt x nought) ++ text "inf"
unfolding lt eq abs_of of_bits decibels_text
is_infinite nan h g = absurd (never g)
is_infinite (inf true) h g = refl
is_infinite (inf false) h g = refl
is_infinite (fin s m e) h g = absurd (never g)

pub is_nan : (x : Float) → lt (abs_of x) infinity ≡ false → eq (abs_of x) infinity ≡ false → decibels_text x ≡ text "nan"
unfolding lt eq abs_of of_bits decibels_text
is_nan nan h g = refl
is_nan (inf s) h g = absurd (never (sym g))
is_nan (fin s m e) h g = absurd (never (sym h))

-- ---- a figure's text is short

short_minus : (b : Bool) → length (minus_text b) ≤ 1
short_minus true = omega arith
short_minus false = omega arith

short_finite : (b : Bool) (h : ℕ) → length (finite_text b h) ≤ 24
short_finite b h = go (ltb h 10_000_000) b (few_digits 20 (h / 100)) (short_minus (b && ltb 0 h))
  where
    go : (t b : Bool) → length (number_text (h / 100)) ≤ 20 → length (minus_text (b && ltb 0 h)) ≤ 1
        → length (cond t (minus_text (b && ltb 0 h) ++ hundredths_text h) (cond b (text "<-99999") (text ">99999"))) ≤ 24
    go true b p q = simp length-append (omega arith)
    go false true p q = omega arith
    go false false p q = omega arith

pub short_decibels : (x : Float) → length (decibels_text x) ≤ 24
unfolding decibels_text of_bits
short_decibels nan = omega arith
short_decibels (inf true) = omega arith
short_decibels (inf false) = omega arith
short_decibels (fin s m e) = short_finite (lt (fin s m e) nought) (hundredths_of (fin false m e))
