-- `side_info_reader::read_side_info` meets its contract: the budget's answer decides which law gives the answer.
use Rattle.std.proofs.lemmas.Result.{err_from_is_err_and}
use Rattle.side_info_reading.proofs.ReadLaws.{promises}
use Rattle.side_info_reader.proofs.AnswerLaws.{from_refused, from_accepted}
use Rattle.side_info_reader.proofs.read_side_info.Goals as goal

pub returns-in_err-budget : goal.returns-in_err-budget
returns-in_err-budget c =
    let p = err_from_is_err_and c.from_residual.result c.from_residual.ensures.1 in
    let b = c.in_err-budget.ensures in
    rw (p.1, p.2) (promises _ _ _ (from_refused _ _ _ b.whole))

pub returns : goal.returns
returns c =
    let b = c.in_ok-budget.ensures in
    promises _ _ _ (from_accepted _ _ _ _ _ b.whole c.layout.ensures c.read_under.ensures)
