-- `layout::Layout::fields` meets its contract.
use native.Mathlib.Omega.{arith}
use borrow.Author.Tests.{eq-eqb, ne_eqb}
use Rattle.layout.proofs.FieldLaws.{fields_are}
use Rattle.layout.proofs.Layout.fields.Goals as goal

pub returns-then-self-eq1 : goal.returns-then-self-eq1
returns-then-self-eq1 c = let limit = c.sblimit-sblimit.ensures.whole in fields_are _ _ (rw (eq-eqb _ _ c.if-self-eq1.true) limit)

pub returns-then-self-sblimit : goal.returns-then-self-sblimit
returns-then-self-sblimit c =
    let limit = c.sblimit-sblimit.ensures.whole in
    fields_are _ _ (rw (ne_eqb _ _ c.if-self-eq1.false) (omega arith))

pub returns-else-self-sblimit : goal.returns-else-self-sblimit
returns-else-self-sblimit c =
    let limit = c.sblimit-sblimit.ensures.whole in
    fields_are _ _ (rw (ne_eqb _ _ c.if-self-eq1.false) (omega arith))
