-- `plan_ratios::are_few` meets its contract.
use Rattle.plan_ratios.specs.Ratio.{few}
use Rattle.plan_ratios.proofs.DecimalLaws.{capped}
use Rattle.plan_ratios.proofs.are_few.Goals as goal

pub returns : goal.returns
unfolding few
returns c = capped _ _ c.saturating_add-digits.ensures
