-- Worked examples of the definitions.
use mathlib.Core.Path.{◌≡◌, refl}
use mathlib.Core.Bool.{false}
use mathlib.Core.List.{[], ◌∷◌}
use Rattle.plan_text.specs.Quoted.{text}
use Rattle.hex_text.specs.Hex.{digit_of, past, read_from, hex_of, accepted, wrong_at, odd_on}

three_bytes : hex_of (text "1f A\n0 # of\n\t3c") ≡ accepted (31 ∷ 160 ∷ 60 ∷ [])
unfolding hex_of read_from past digit_of
three_bytes = refl

-- the second line's third character
wrong : hex_of (text "1f\n 0g2") ≡ wrong_at (record { line = 1; column = 2; comment = false })
unfolding hex_of read_from past digit_of
wrong = refl

-- the last digit is on the second line
odd : hex_of (text "1f\n203\n\n") ≡ odd_on 2
unfolding hex_of read_from past digit_of
odd = refl
