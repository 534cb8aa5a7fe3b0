-- `record_checker::check_record` meets its contract: the budget's answer decides which law gives the answer.
use Rattle.std.proofs.lemmas.Result.{err_from_is_err_and}
use Rattle.record_check.proofs.PromiseLaws.{promises}
use Rattle.record_checker.proofs.AnswerLaws.{from_refused, from_accepted}
use Rattle.record_checker.proofs.check_record.Goals as goal

pub returns-in_err-budget : goal.returns-in_err-budget
returns-in_err-budget c =
    let p = err_from_is_err_and c.from_residual.result c.from_residual.ensures.1 in
    let b = c.in_err-budget.ensures in
    rw (p.1, p.2) (promises _ _ _ (from_refused _ _ _ b.whole))

pub returns : goal.returns
returns c =
    let b = c.in_ok-budget.ensures in
    promises _ _ _ (from_accepted _ _ _ _ _ b.whole c.layout.ensures c.check_under.ensures)
