-- `side_info_writer::write_side_info` meets its contract: the budget's answer decides which law gives the answer.
use Rattle.std.proofs.lemmas.Result.{err_from_is_err_and}
use Rattle.side_info_writer.proofs.WholeLaws.{promises, from_refused, from_accepted}
use Rattle.side_info_writer.proofs.write_side_info.Goals as goal

pub returns-in_err-budget : goal.returns-in_err-budget
returns-in_err-budget c =
    let p = err_from_is_err_and c.from_residual.result c.from_residual.ensures.1 in
    promises _ _ _ (rw (p.1, p.2) (from_refused _ _ _ c.in_err-budget.ensures.whole))

pub returns : goal.returns
returns c = promises _ _ _ (from_accepted _ _ c.in_ok-budget.budget c.in_ok-budget.ensures.whole _ _ c.layout.ensures c.write_under.ensures)
