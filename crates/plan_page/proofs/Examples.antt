-- Worked examples of the definitions: 44100 Hz, stereo, 192 kbit/s.
use mathlib.Core.Path.{◌≡◌, refl}
use Rattle.tables.specs.Decimal.{decimal}
use Rattle.encoder_samples.specs.Samples.{clamped}
use Rattle.encoder_bit_demand.specs.Snr.{snr_row, table_c5, snr_of}
use lib.Ieee.{mul, sub, neg, lt}
use Rattle.plan_text.specs.Quoted.{text}
use Rattle.text_line.specs.Line.{aligned}
use Rattle.text_line.specs.Number.{digits_of}
use Rattle.text_line.specs.Decibels.{hundredths_of, decibels_text}
use Rattle.plan_page.specs.Rows.{heading_line, slot_columns}

heading : heading_line 2 ≡ text "subband |     ratio  steps      left |     ratio  steps      left |  bits"
unfolding heading_line
heading = refl

slot : slot_columns (decimal 0 20) 127 ≡ text "     20.00    127     23.84 |"
unfolding slot_columns aligned digits_of decibels_text hundredths_of clamped mul sub neg lt snr_of table_c5 snr_row decimal
slot = refl
