-- `plan_ratios::nearest_decimal` meets its contract.
use Rattle.plan_ratios.proofs.DecimalLaws.{one_division}
use Rattle.plan_ratios.proofs.nearest_decimal.Goals as goal

pub returns : goal.returns
returns c =
    rw (c.nearest_u64_to_f64.ensures, c.nearest_u64_to_f64-2.ensures, c.pow-scale.ensures)
    (one_division _ _ c.requires.1 c.requires.0)
