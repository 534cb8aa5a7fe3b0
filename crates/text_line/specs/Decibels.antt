-- A figure in decibels, to the hundredth.
use Rattle.std.specs.Prelude.{ℕ, ◌+◌, ◌/◌, ◌%◌, ◌^◌, Bool, false, cond, ◌&&◌, List, [], ◌∷◌, ◌++◌, ltb, pos, Float}
use Rattle.std.specs.Float.{nan, inf, fin, binary64}
use Rattle.std.specs.Float.Ieee.{mul, lt}
use Rattle.encoder_samples.specs.Samples.{clamped}
use Rattle.plan_text.specs.Quoted.{text}
use Rattle.text_line.specs.Number.{number_text}

-- the hundredths of a magnitude: 100 = 25 * 2 ^ 2 times it, in one rounding, and of that the nearest whole number, halves up, at most 2 ^ 32
unfoldable pub hundredths_of : Float → ℕ
hundredths_of x = clamped (2 ^ 32) 0 (mul binary64 x (fin false 25 (pos 2)))

abbrev pub minus_text : Bool → List ℕ
minus_text below = cond below (text "-") []

-- two digits
abbrev pub two_digits : ℕ → List ℕ
two_digits n = (48 + n / 10) ∷ (48 + n % 10) ∷ []

-- a number of hundredths
abbrev pub hundredths_text : ℕ → List ℕ
hundredths_text h = number_text (h / 100) ++ text "." ++ two_digits (h % 100)

-- a finite figure, from whether it is below 0 and its hundredths: no minus sign before 0.00, and no digits from 100,000 dB on
abbrev pub finite_text : Bool → ℕ → List ℕ
finite_text below h =
    cond (ltb h 10_000_000)
    (minus_text (below && ltb 0 h) ++ hundredths_text h)
    (cond below (text "<-99999") (text ">99999"))

unfoldable pub decibels_text : Float → List ℕ
unfolding hundredths_of
decibels_text nan = text "nan"
decibels_text (inf s) = minus_text s ++ text "inf"
decibels_text (fin s m e) = finite_text (lt (fin s m e) (fin false 0 (pos 0))) (hundredths_of (fin false m e))
