-- `layout::Layout::slots` meets its contract.
use native.Mathlib.Omega.{arith}
use borrow.Author.Tests.{eq-eqb, ne_eqb}
use Rattle.layout.proofs.WireLaws.{slots_are}
use Rattle.layout.proofs.Layout.slots.Goals as goal

pub returns-then-self-eq1 : goal.returns-then-self-eq1
returns-then-self-eq1 c =
    let limit = c.sblimit-sblimit.ensures in
    slots_are _ _ (rw (eq-eqb _ _ c.if-self-eq1.true) limit.whole) (omega arith)

pub returns-else-self-eq1 : goal.returns-else-self-eq1
returns-else-self-eq1 c =
    let limit = c.sblimit-sblimit.ensures in
    slots_are _ _ (rw (ne_eqb _ _ c.if-self-eq1.false) (let e = limit.whole in omega arith)) (omega arith)
