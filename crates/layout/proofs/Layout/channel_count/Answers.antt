-- `layout::Layout::channel_count` meets its contract.
use borrow.Author.Tests.{eq-eqb, ne_eqb}
use borrow.Author.Rules.{rules}
use Rattle.layout.proofs.Layout.channel_count.Goals as goal

pub returns-then-self-eq1 : goal.returns-then-self-eq1
returns-then-self-eq1 c = record { whole = rw (eq-eqb _ _ c.if-self-eq1.true); most = search rules }

pub returns-else-self-eq1 : goal.returns-else-self-eq1
returns-else-self-eq1 c = record { whole = rw (ne_eqb _ _ c.if-self-eq1.false); most = search rules }
