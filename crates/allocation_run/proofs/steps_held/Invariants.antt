use Rattle.std.proofs.Common.{◌≡◌, ℕ, ◌/◌, ◌%◌, ◌<◌, length, get_or}
use Rattle.allocation_run.specs.Steps.{steps_held}
use Rattle.allocation_run.proofs.steps_held.Given as goal

abbrev pub invariant-loop-slot : goal.invariant-loop-slot
invariant-loop-slot l = record {
  long : length l.steps ≡ 64;
  held : (k : ℕ) → k < l.slot → get_or l.steps k 0 ≡ steps_held l.layout l.places (k / 32) (k % 32);
}
