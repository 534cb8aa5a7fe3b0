-- `encoder_bit_allocator::allocate_under` meets its contract.
use Rattle.std.proofs.Common.{arith}
use Rattle.encoder_bit_allocator.proofs.AnswerLaws.{under_accepted, under_short}
use Rattle.encoder_bit_allocator.proofs.allocate_under.Goals as goal

pub returns-then-spent-from : goal.returns-then-spent-from
returns-then-spent-from c =
    let given = c.args in
    under_accepted given.b given.smr_db.now given.banc _ _ _ _ c.fixed-fixed.ensures (omega arith) c.layout-layout.ensures c.worst_case-costs.ensures
    (rw c.from.ensures at c.accepted.ensures)

pub returns-else-spent-from : goal.returns-else-spent-from
returns-else-spent-from c =
    let given = c.args in
    under_short given.b given.smr_db.now given.banc _ c.fixed-fixed.ensures (omega arith)
