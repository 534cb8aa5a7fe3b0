-- `side_page::refusal::numbered_line` meets its contract.
use borrow.Author.Rules.{rules}
use borrow.Author.Tests.{ne_eqb}
use Rattle.side_page.specs.Page.{refused_line}
use Rattle.side_page.proofs.refusal.numbered_line.Goals as goal

pub returns-in-9 : goal.returns-in-9
unfolding refused_line
returns-in-9 c = rw c.in-9.is c.cut_short.ensures

pub returns-in-10 : goal.returns-in-10
unfolding refused_line
returns-in-10 c = rw c.in-10.is c.reserved.ensures

pub returns-in_default : goal.returns-in_default
unfolding refused_line
returns-in_default c = rw (ne_eqb c.args.number 9 (search rules), ne_eqb c.args.number 10 (search rules)) c.numbered_line.ensures
