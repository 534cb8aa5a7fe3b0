-- `encoder_bit_allocator::worst_case` meets its contract. The loop's invariant: the costs so far.
use Rattle.std.proofs.Common.{arith}
use Rattle.encoder_bit_allocator.proofs.CostLaws.{all_costed}
use Rattle.encoder_bit_allocator.proofs.worst_case.Goals as goal

pub returns : goal.returns
returns c = all_costed _ c.loop-f.costs c.loop-f.f (omega (arith, c.fields-fields.ensures.whole)) c.loop-f.invariant
