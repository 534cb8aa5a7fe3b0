-- `encoder_bit_allocator::allocate` meets its contract: each return has its law of the answers.
use Rattle.std.proofs.Common.{refl}
use Rattle.std.proofs.lemmas.Result.{err_from_is_err_and}
use Rattle.encoder_bit_allocator.proofs.AnswerLaws.{smr_fits, answers, from_refused, from_accepted}
use Rattle.encoder_bit_allocator.proofs.allocate.Goals as goal

pub allocate_under-requires : goal.allocate_under-requires
allocate_under-requires c = let b = c.in_ok-budget.ensures in (b.bounded _ refl).fixed

pub returns-in_err-budget : goal.returns-in_err-budget
returns-in_err-budget c =
    let p = err_from_is_err_and c.from_residual.result c.from_residual.ensures.1 in
    let b = c.in_err-budget.ensures in
    rw (p.1, p.2) (answers _ _ _ (smr_fits c.args.smr_db _ c.well_formed.1.0) (from_refused _ _ _ b.whole))

pub returns : goal.returns
returns c =
    let b = c.in_ok-budget.ensures in
    answers _ _ _ (smr_fits c.args.smr_db _ c.well_formed.1.0) (from_accepted _ _ _ _ b.whole c.allocate_under.ensures)
