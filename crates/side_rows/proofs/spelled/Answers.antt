-- `side_rows::spelled` meets its contract.
use mathlib.Core.Path.{refl}
use Rattle.side_rows.proofs.RowLaws.{none_spelled, one_spelled, all_spelled}
use Rattle.side_rows.proofs.spelled.Goals as goal

pub loop-i-init : goal.loop-i-init
loop-i-init c = none_spelled _ _ refl refl

pub loop-i-preserved : goal.loop-i-preserved
loop-i-preserved c = one_spelled _ _ _ _ c.loop-i.invariant c.loop-i-test.true

pub returns : goal.returns
returns c = all_spelled _ _ _ _ c.loop-i.invariant c.loop-i-test.false
