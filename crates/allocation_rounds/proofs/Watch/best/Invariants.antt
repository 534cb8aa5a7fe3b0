use Rattle.std.proofs.Common.{◌≡◌}
use Rattle.allocation_rounds.specs.Watch.{scanned}
use Rattle.allocation_rounds.proofs.Watch.best.Given as goal

abbrev pub invariant-loop-field : goal.invariant-loop-field
invariant-loop-field l = l.found ≡ scanned l.self.waiting l.self.present l.field
