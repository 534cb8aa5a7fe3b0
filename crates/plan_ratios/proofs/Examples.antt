-- Worked examples of the definitions.
use Rattle.std.proofs.Common.{◌≡◌, true, [], ◌∷◌, pos, negsuc, refl}
use Rattle.std.specs.Prelude.{Some, None}
use lib.Ieee.{fin, inf, neg}
use Rattle.tables.specs.Decimal.{decimal}
use Rattle.plan_text.specs.Quoted.{text}
use Rattle.plan_ratios.specs.Ratio.{few, pointed, unsigned, signed, word_value, ratio_of}
use Rattle.plan_ratios.specs.Tokens.{on_line, tokens_from}

-- -12.5 is 25 * 2 ^ -1, negative
half : ratio_of (text "-12.5") ≡ Some (fin true 25 (negsuc 0))
unfolding ratio_of word_value signed unsigned pointed few decimal neg
half = refl

minus_zero : ratio_of (text "-0") ≡ Some (fin true 0 (pos 0))
unfolding ratio_of word_value signed unsigned pointed few decimal neg
minus_zero = refl

below_all : ratio_of (text "-inf") ≡ Some (inf true)
unfolding ratio_of word_value
below_all = refl

two_points : ratio_of (text "1.2.5") ≡ None
unfolding ratio_of word_value signed unsigned pointed few
two_points = refl

sixteen_digits : ratio_of (text "0.123456789012345") ≡ None
unfolding ratio_of word_value signed unsigned pointed few
sixteen_digits = refl

commented : tokens_from 1 (text "1 2# 3\n\n 4") ≡ on_line 1 (text "1") ∷ on_line 1 (text "2") ∷ on_line 3 (text "4") ∷ []
unfolding tokens_from
commented = refl
