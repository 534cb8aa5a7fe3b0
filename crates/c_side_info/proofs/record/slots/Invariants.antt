use Rattle.c_side_info.proofs.SlotLaws.{Meant}
use Rattle.c_side_info.proofs.record.slots.Given as goal

abbrev pub invariant-loop-slot : goal.invariant-loop-slot
invariant-loop-slot l = Meant l.codes l.slots l.slot
