use Rattle.std.proofs.Common.{◌≡◌, length}
use Rattle.allocation_rounds.specs.Rounds.{ended}
use Rattle.allocation_rounds.specs.Lent.{rules_in}
use Rattle.allocation_rounds.specs.Watch.{Watched}
use Rattle.allocation_rounds.proofs.Ending.{room_in}
use Rattle.allocation_rounds.proofs.Run.finish.Given as goal

abbrev pub invariant-loop-found : goal.invariant-loop-found
invariant-loop-found l = record {
  long : length l.run.places ≡ 64;
  same : ended (rules_in l.tables) l.run ≡ ended (rules_in l.tables) l.initial.run;
  watched : Watched (rules_in l.tables) l.run.places l.run.closed l.end l.watch.waiting l.watch.present;
}

abbrev pub decreases-loop-found : goal.decreases-loop-found
decreases-loop-found l = room_in (rules_in l.tables) l.run
