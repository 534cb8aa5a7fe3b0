-- `plan_ratios::read_word` meets its contract.
use lib.Ieee.{of_bits}
use Rattle.plan_text.specs.Table.{looked_up}
use Rattle.plan_ratios.specs.Ratio.{word_value}
use Rattle.plan_ratios.proofs.read_word.Goals as goal

pub returns : goal.returns
unfolding looked_up word_value of_bits
returns c = c.look_up.ensures
