use Rattle.c_side_info_read.proofs.CodeLaws.{Coded}
use Rattle.c_side_info_read.proofs.codes_of.Given as goal

abbrev pub invariant-loop-slot : goal.invariant-loop-slot
invariant-loop-slot l = Coded l.slots l.codes l.slot
