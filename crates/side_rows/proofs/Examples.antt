-- Worked examples of the definitions.
use mathlib.Core.Path.{◌≡◌, refl}
use Rattle.tables.specs.Scalefactors.{printed}
use Rattle.audio_data.specs.Scfsi.{three}
use Rattle.plan_text.specs.Quoted.{text}
use Rattle.text_line.specs.Line.{aligned}
use Rattle.text_line.specs.Number.{digits_of}
use Rattle.side_rows.specs.Rows.{last_digits, pointed_text, multiplier_text, multiplier_column, row_start, indices_text, row_line}

second : multiplier_text 1 ≡ text "1.58740105196820"
unfolding multiplier_text pointed_text last_digits printed
second = refl

last : multiplier_text 62 ≡ text "0.00000120155435"
unfolding multiplier_text pointed_text last_digits printed
last = refl

-- subband 5 of channel 1
row : row_line 37 15 1 (three 3 3 12) ≡ text "      5        1     15      1     3   3  12  1.00000000000000  1.00000000000000  0.12500000000000"
unfolding row_line row_start indices_text multiplier_column multiplier_text pointed_text last_digits printed aligned digits_of
row = refl
