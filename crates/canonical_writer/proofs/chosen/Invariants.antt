use Rattle.canonical_writer.proofs.ChosenLaws.{ChosenTo}
use Rattle.canonical_writer.proofs.chosen.Given as goal

abbrev pub invariant-loop-slot : goal.invariant-loop-slot
invariant-loop-slot l = ChosenTo l.info l.slots l.slot
