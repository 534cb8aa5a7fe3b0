use Rattle.encoder_bit_allocator.proofs.CostLaws.{Costed}
use Rattle.encoder_bit_allocator.proofs.worst_case.Given as goal

abbrev pub invariant-loop-f : goal.invariant-loop-f
invariant-loop-f l = Costed l.layout l.costs l.f
