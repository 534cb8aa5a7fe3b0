-- `plan_lines::refusal::reason` meets its contract: at each key the search finds the sentence, and off the keys none.
use borrow.Author.Rules.{rules}
use borrow.Author.Tests.{ne_eqb}
use Rattle.text_line.specs.Line.{text_of}
use Rattle.text_line.proofs.LineLaws.{more}
use Rattle.plan_lines.proofs.refusal.reason.Goals as goal

pub returns-in-4 : goal.returns-in-4
returns-in-4 c =
    rw (c.in-4.is, ← c.is_free_format.ensures)
    (more (text_of c.args.line) _ _ c.too_small.ensures c.advice.ensures)

pub returns-in_default : goal.returns-in_default
returns-in_default c =
    let n = c.args.number in
    rw (ne_eqb n 16 (search rules), ne_eqb n 1 (search rules), ne_eqb n 2 (search rules), ne_eqb n 3 (search rules), ne_eqb n 4 (search rules))
    c.other.ensures
