-- `plan_ratios::read_ratio` meets its contract.
use Rattle.std.proofs.Common.{ap₂, ◌∙◌}
use Rattle.std.specs.Option.{option_or}
use Rattle.plan_ratios.specs.Ratio.{ratio_of}
use Rattle.plan_ratios.proofs.read_ratio.Goals as goal

pub returns : goal.returns
unfolding ratio_of
returns c = c.or.ensures ∙ ap₂ option_or c.read_word.ensures c.read_signed.ensures
