-- `allocation_run::run_of` meets its contract: the tables agree with the rules, so the rounds end where the definition's do.
use Rattle.std.proofs.Common.{refl, arith}
use native.Mathlib.Nat.{not-suc-le-zero}
use Rattle.allocation_run.specs.Laid.{TopsTo}
use Rattle.allocation_run.proofs.LaidLaws.{none_laid}
use Rattle.allocation_run.proofs.RunLaws.{run_is}
use Rattle.allocation_run.proofs.run_of.Goals as goal

pub loop-f-init : goal.loop-f-init
unfolding TopsTo
loop-f-init c = record {
  fields = c.fields-fields.ensures.whole;
  tops = λ f h. absurd (not-suc-le-zero h);
  laid = none_laid _ _ _ refl refl;
}

pub returns : goal.returns
returns c =
    run_is c.args.layout c.args.smr_db.now c.args.costs c.loop-f.f (omega (arith, c.fields-fields.ensures.whole)) c.loop-f.tables c.loop-f.invariant
    _ _ _ c.start-run.ensures c.finish.ensures.onward
