use Rattle.allocation_rounds.specs.Lent.{rules_in}
use Rattle.allocation_rounds.specs.Watch.{Watched}
use Rattle.allocation_rounds.proofs.Watch.over.Given as goal

abbrev pub invariant-loop-field : goal.invariant-loop-field
invariant-loop-field l = Watched (rules_in l.tables) l.run.places l.run.closed l.field l.watch.waiting l.watch.present
