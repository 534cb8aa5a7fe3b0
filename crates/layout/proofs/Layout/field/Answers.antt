-- `layout::Layout::field` meets its contract.
use borrow.Author.Tests.{eq-eqb, ne_eqb, lt-ltb, le-ltb}
use Rattle.layout.proofs.FieldLaws.{field_is, no_field}
use Rattle.layout.proofs.Layout.field.Goals as goal

pub returns-then-fields-number : goal.returns-then-fields-number
returns-then-fields-number c =
    no_field _ _ _ (rw c.fields-fields.ensures.whole at c.if-fields-number.true) c.own.ensures

pub returns-then-self-eq1 : goal.returns-then-self-eq1
returns-then-self-eq1 c =
    field_is _ _ _ (rw c.fields-fields.ensures.whole at c.if-fields-number.false) (rw (eq-eqb _ _ c.if-self-eq1.true) c.own-then-self-eq1.ensures)

pub returns-then-number-self : goal.returns-then-number-self
returns-then-number-self c =
    field_is _ _ _ (rw c.fields-fields.ensures.whole at c.if-fields-number.false)
    (rw (ne_eqb _ _ c.if-self-eq1.false, lt-ltb _ _ c.if-number-self.true) c.own-then-number-self.ensures)

pub returns-else-number-self : goal.returns-else-number-self
returns-else-number-self c =
    field_is _ _ _ (rw c.fields-fields.ensures.whole at c.if-fields-number.false)
    (rw (ne_eqb _ _ c.if-self-eq1.false, le-ltb _ _ c.if-number-self.false))
