-- `plan_page::rows::bits_in` meets its contract.
use mathlib.Core.Path.{refl}
use Rattle.plan_page.proofs.RowLaws.{bits_here, bits_elsewhere}
use Rattle.plan_page.proofs.rows.bits_in.Goals as goal

pub returns-then-field-sb : goal.returns-then-field-sb
returns-then-field-sb c =
    let given = c.args in
    bits_here given.steps.now given.sb given.field _ _ _ c.if-field-sb.true refl c.first_step_bits.ensures c.charge.ensures

pub returns-else-field-sb : goal.returns-else-field-sb
returns-else-field-sb c =
    let given = c.args in
    bits_elsewhere given.steps.now given.sb given.field c.if-field-sb.false
