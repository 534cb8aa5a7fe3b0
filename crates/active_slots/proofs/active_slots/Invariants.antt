use Rattle.active_slots.proofs.ActiveLaws.{ActiveTo}
use Rattle.active_slots.proofs.active_slots.Given as goal

abbrev pub invariant-loop-k : goal.invariant-loop-k
invariant-loop-k l = ActiveTo l.layout l.nb_steps l.k l.count l.active
