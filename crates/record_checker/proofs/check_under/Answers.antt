-- `record_checker::check_under` meets its contract. The loop's invariant: the slots so far passed, and those to come decide.
use mathlib.Core.Path.{refl}
use Rattle.record_checker.proofs.WalkLaws.{none_asked, one_passed, one_refused, all_asked}
use Rattle.record_checker.proofs.check_under.Goals as goal

pub loop-k-init : goal.loop-k-init
loop-k-init c = none_asked _ _

pub returns-in-Err : goal.returns-in-Err
returns-in-Err c = one_refused _ _ _ _ c.loop-k-test.true c.loop-k.invariant c.in-Err.ensures c.in-Err.error refl

pub loop-k-preserved : goal.loop-k-preserved
loop-k-preserved c = one_passed _ _ _ _ c.loop-k-test.true c.loop-k.invariant c.in_default.ensures refl

pub returns : goal.returns
returns c = all_asked _ _ _ c.loop-k-test.false c.loop-k.invariant
