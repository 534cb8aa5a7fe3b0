-- `encoder_bit_demand::snr_table` meets its contract: antt rounds each printed ratio and finds the constant's bits.
use mathlib.Core.Path.{refl}
use lib.Ieee.{of_bits}
use Rattle.encoder_bit_demand.specs.Snr.{decibels}
use Rattle.encoder_bit_demand.proofs.snr_table.Goals as goal

pub returns : goal.returns
unfolding of_bits decibels
returns c = refl
