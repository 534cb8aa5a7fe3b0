use Rattle.allocation_run.specs.Laid.{Filled}
use Rattle.allocation_run.proofs.run_of.Given as goal

abbrev pub invariant-loop-f : goal.invariant-loop-f
invariant-loop-f l = Filled l.layout l.smr_db l.costs l.f l.tables
