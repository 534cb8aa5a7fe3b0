-- `ieee_order::abs` meets its contract, which is that of std's `f64::abs`.
use mathlib.Core.Path.{◌∙◌}
use Rattle.ieee_order.proofs.Magnitude.{abs_is}
use Rattle.ieee_order.proofs.abs.Goals as goal

pub returns : goal.returns
returns c = c.abs.ensures.value ∙ abs_is c.args.x
