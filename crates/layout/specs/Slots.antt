-- A slot is one channel of one subband. Its number is 32 * channel + subband: channel 0 has the slots 0 to 31, channel 1 those behind them.
use Rattle.std.specs.Prelude.{ℕ, ◌+◌, ◌*◌, ◌/◌, ◌%◌, List, Float, get_or}
use Rattle.std.specs.Float.{nan}
use Rattle.tables.specs.Listed.{tabulate}

abbrev pub slot_of : ℕ → ℕ → ℕ
slot_of ch sb = 32 * ch + sb

-- the channel and the subband of a slot
abbrev pub channel_in : ℕ → ℕ
channel_in slot = slot / 32

abbrev pub subband_in : ℕ → ℕ
subband_in slot = slot % 32

-- ---- signal-to-mask ratios that come in one row of slots, as the two rows of 32 that the demand and the allocation take

-- the ratios of a channel, by subband; a NaN where there are too few slots
unfoldable pub smr_row : List Float → ℕ → List Float
smr_row by-slot ch = tabulate 32 (λ sb. get_or by-slot (slot_of ch sb) nan)

-- the ratios by channel and subband
unfoldable pub smr_rows : List Float → List (List Float)
unfolding smr_row
smr_rows by-slot = tabulate 2 (smr_row by-slot)
