-- Signal-to-noise ratios: Table C.5 of ISO/IEC 11172-3, "Layer II Signal-to-Noise Ratios".
use Rattle.std.specs.Prelude.{ℕ, List, [], ◌∷◌, map, eqb, Float, Option, None, Some, option_map}
use Rattle.std.specs.Float.{nan}
use Rattle.tables.specs.Decimal.{decimal}
use Rattle.tables.specs.Search.{place, find}

-- a row of the table: a number of steps, and the ratio in dB, which has two decimal places; no steps is 0 dB
pub record SnrRow : Type 0 where
  pub steps : ℕ
  pub db : Float

unfoldable pub snr_row : ℕ → ℕ → SnrRow
unfolding decimal
snr_row steps db = record { steps = steps; db = decimal 2 db }

unfoldable pub table_c5 : List SnrRow
unfolding snr_row
table_c5 =
    snr_row 0 0_00
    ∷ snr_row 3 7_00
    ∷ snr_row 5 11_00
    ∷ snr_row 7 16_00
    ∷ snr_row 9 20_84
    ∷ snr_row 15 25_28
    ∷ snr_row 31 31_59
    ∷ snr_row 63 37_75
    ∷ snr_row 127 43_84
    ∷ snr_row 255 49_89
    ∷ snr_row 511 55_93
    ∷ snr_row 1023 61_96
    ∷ snr_row 2047 67_98
    ∷ snr_row 4095 74_01
    ∷ snr_row 8191 80_03
    ∷ snr_row 16383 86_05
    ∷ snr_row 32767 92_01
    ∷ snr_row 65535 98_01
    ∷ []

-- the column of ratios
unfoldable pub decibels : List Float
unfolding table_c5
decibels = map (λ r. r.db) table_c5

-- the row that has a number of steps, counted from 0
unfoldable pub row_number : ℕ → Option ℕ
unfolding table_c5
row_number steps = place (λ r. eqb r.steps steps) table_c5

-- the ratio of a number of steps
unfoldable pub snr_of : ℕ → Option Float
unfolding table_c5
snr_of steps = option_map (λ r. r.db) (find (λ r. eqb r.steps steps) table_c5)

-- the same where the steps are known to be the table's; a row's are
abbrev pub or_nan : Option Float → Float
or_nan None = nan
or_nan (Some x) = x

abbrev pub snr : ℕ → Float
snr steps = or_nan (snr_of steps)
