-- Worked examples of the definitions.
use mathlib.Core.Path.{◌≡◌, refl}
use mathlib.Core.Bool.{true}
use lib.Ieee.{nan, inf, fin, neg, mul, lt}
use lib.IntN.{negsuc}
use Rattle.tables.specs.Decimal.{decimal}
use Rattle.encoder_samples.specs.Samples.{clamped}
use Rattle.plan_text.specs.Quoted.{text}
use Rattle.text_line.specs.Line.{aligned}
use Rattle.text_line.specs.Number.{digits_of, number_text}
use Rattle.text_line.specs.Decibels.{hundredths_of, decibels_text}

naught : number_text 0 ≡ text "0"
unfolding digits_of
naught = refl

in_a_column : aligned 6 (number_text 4_788) ≡ text "  4788"
unfolding aligned digits_of
in_a_column = refl

wider_than_its_column : aligned 2 (number_text 18_446_744_073_709_551_615) ≡ text "18446744073709551615"
unfolding aligned digits_of
wider_than_its_column = refl

-- 20 dB
twenty : decibels_text (decimal 0 20) ≡ text "20.00"
unfolding decibels_text hundredths_of clamped decimal mul lt digits_of
twenty = refl

half_way : decibels_text (decimal 3 12_345) ≡ text "12.35"
unfolding decibels_text hundredths_of clamped decimal mul lt digits_of
half_way = refl

negative : decibels_text (neg (decimal 2 4_75)) ≡ text "-4.75"
unfolding decibels_text hundredths_of clamped decimal neg mul lt digits_of
negative = refl

-- 1/256 dB below 0: no hundredths, and no minus sign
small : decibels_text (fin true 1 (negsuc 7)) ≡ text "0.00"
unfolding decibels_text hundredths_of clamped mul lt digits_of
small = refl

large : decibels_text (decimal 0 100_000) ≡ text ">99999"
unfolding decibels_text hundredths_of clamped decimal mul lt
large = refl

below_all : decibels_text (inf true) ≡ text "-inf"
unfolding decibels_text
below_all = refl

no_number : decibels_text nan ≡ text "nan"
unfolding decibels_text
no_number = refl
