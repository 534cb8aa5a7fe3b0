-- `plan_lines::lines::balance` meets its contract.
use borrow.Author.Tests.{le-leb, lt-leb}
use Rattle.text_line.specs.Line.{text_of}
use Rattle.text_line.proofs.LineLaws.{more}
use Rattle.plan_lines.specs.Lines.{balance_text}
use Rattle.plan_lines.proofs.lines.balance.Goals as goal

pub returns-then-demand-offered : goal.returns-then-demand-offered
unfolding balance_text
returns-then-demand-offered c = rw (le-leb _ _ c.if-demand-offered.true) c.text.ensures

pub returns-else-demand-offered : goal.returns-else-demand-offered
unfolding balance_text
returns-else-demand-offered c =
    let line = text_of c.args.line in
    rw (lt-leb _ _ c.if-demand-offered.false)
    (more line _ _ (more line _ _ c.text-else-demand-offered.ensures c.number.ensures) c.text-else-demand-offered-2.ensures)
