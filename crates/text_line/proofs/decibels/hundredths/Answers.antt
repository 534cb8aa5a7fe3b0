-- `text_line::decibels::hundredths` meets its contract.
use lib.Ieee.{of_bits}
use Rattle.text_line.specs.Decibels.{hundredths_of}
use Rattle.text_line.proofs.decibels.hundredths.Goals as goal

pub returns : goal.returns
unfolding hundredths_of of_bits
returns c = c.nearest_whole.ensures.whole
