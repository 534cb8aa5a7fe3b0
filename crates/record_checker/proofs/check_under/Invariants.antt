use Rattle.record_checker.proofs.WalkLaws.{AskedTo}
use Rattle.record_checker.proofs.check_under.Given as goal

abbrev pub invariant-loop-k : goal.invariant-loop-k
invariant-loop-k l = AskedTo l.layout l.info l.k
