use Rattle.side_info_writer.proofs.AskedLaws.{TabledTo}
use Rattle.side_info_writer.proofs.indices_tabled.Given as goal

abbrev pub invariant-loop-slot : goal.invariant-loop-slot
invariant-loop-slot l = TabledTo (l.slot-items) l.info l.slot-index
