-- `canonical_writer::write_side_info_canonical` meets its contract: the check refuses the record, or the writer answers.
use Rattle.std.proofs.lemmas.Result.{err_from_is_err_and}
use Rattle.canonical_form.proofs.PromiseLaws.{promises}
use Rattle.canonical_writer.proofs.AnswerLaws.{from_refused, from_written}
use Rattle.canonical_writer.proofs.write_side_info_canonical.Goals as goal

pub returns-in_err-check_record : goal.returns-in_err-check_record
returns-in_err-check_record c =
    let p = err_from_is_err_and c.from_residual.result c.from_residual.ensures.1 in
    promises _ _ _ (rw (p.1, p.2) (from_refused _ _ _ c.in_err-check_record.ensures.whole))

pub returns-in_err-write_side_info : goal.returns-in_err-write_side_info
returns-in_err-write_side_info c =
    let r = c.from_residual-in_err-write_side_info in
    let p = err_from_is_err_and r.result r.ensures.1 in
    promises _ _ _ (rw (p.1, p.2) (from_written _ _ _ _ c.in_ok-check_record.ensures.whole c.chosen.ensures c.in_err-write_side_info.ensures.whole))

pub returns : goal.returns
returns c = promises _ _ _ (from_written _ _ _ _ c.in_ok-check_record.ensures.whole c.chosen.ensures c.in_ok-write_side_info.ensures.whole)
