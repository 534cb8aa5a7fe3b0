-- `layout::Layout::slot` meets its contract.
use native.Mathlib.Omega.{arith}
use borrow.Author.Tests.{eq-eqb, ne_eqb}
use Rattle.layout.proofs.WireLaws.{slot_is, no_slot}
use Rattle.layout.proofs.Layout.slot.Goals as goal

pub returns-then-slots-number : goal.returns-then-slots-number
returns-then-slots-number c = no_slot _ _ (rw c.slots-slots.ensures.whole at c.if-slots-number.true)

pub returns-then-self-eq1 : goal.returns-then-self-eq1
returns-then-self-eq1 c =
    let slots = c.slots-slots.ensures in
    slot_is _ _ _ (rw slots.whole at c.if-slots-number.false) (rw (eq-eqb _ _ c.if-self-eq1.true)) (let few = slots.few in omega arith)

pub returns-else-self-eq1 : goal.returns-else-self-eq1
returns-else-self-eq1 c =
    let slots = c.slots-slots.ensures in
    slot_is _ _ _ (rw slots.whole at c.if-slots-number.false) (rw (ne_eqb _ _ c.if-self-eq1.false)) (let few = slots.few in omega arith)
