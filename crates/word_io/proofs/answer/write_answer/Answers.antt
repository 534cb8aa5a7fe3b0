-- `word_io::answer::write_answer` meets its contract.
use Rattle.word_io.proofs.WrittenLaws.{none_yet, one_more, no_more, counted_out, no_text, more_written, until_full, on_ok, at_first, before_too, so_far}
use Rattle.word_io.proofs.answer.write_answer.Goals as goal

pub loop-n-init : goal.loop-n-init
loop-n-init g c = (none_yet _, at_first _, on_ok _ (no_text _))

pub loop-n-preserved : goal.loop-n-preserved
loop-n-preserved g c =
    let page = g.A.Answer.page c.args.words.now c.args.input.now in
    let i = c.loop-n.invariant in
    let w = c.write_line.ensures in (
      one_more page c.loop-n.n c.in-Some.line c.in-Some.ensures,
      before_too _ _ _ i.1 w.kept,
      so_far _ _ i.2 w.kept w.text (more_written page _ _ _ c.loop-n.n c.in-Some.line c.in-Some.ensures),
    )

pub returns-in-None-clause-lines : goal.returns-in-None-clause-lines
returns-in-None-clause-lines g c = no_more _ _ c.loop-n-test.true c.loop-n.invariant.0 c.in-None.ensures

pub returns-clause-lines : goal.returns-clause-lines
returns-clause-lines g c = counted_out _ c.loop-n.n c.loop-n-test.false c.loop-n.auto.n-end c.loop-n.invariant.0

pub returns-clause-text : goal.returns-clause-text
returns-clause-text g c = until_full _ _ _ c.loop-n.n _ c.loop-n-test.false c.loop-n.auto.n-end c.loop-n.invariant.2
