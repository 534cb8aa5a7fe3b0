-- `side_info_writer::write_under` meets its contract: the sections are written, or the error has the number.
use Rattle.std.proofs.lemmas.Result.{err_from_is_err_and}
use Rattle.side_info_writer.proofs.WholeLaws.{accepted, not_written}
use Rattle.side_info_writer.proofs.write_under.Goals as goal

pub returns-in_err-write_sections : goal.returns-in_err-write_sections
returns-in_err-write_sections c =
    let p = err_from_is_err_and c.from_residual.result c.from_residual.ensures.1 in
    rw (p.1, p.2) (not_written c.args.layout c.args.info.now _ c.in_err-write_sections.ensures.asked)

pub returns : goal.returns
returns c =
    accepted c.args.layout c.args.info.now _ _ _ c.in_ok-write_sections.ensures.asked c.in_ok-write_sections.ensures.written c.bytes.ensures c.bits_used.ensures
