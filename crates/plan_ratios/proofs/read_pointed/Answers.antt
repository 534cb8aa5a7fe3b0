-- `plan_ratios::read_pointed` meets its contract.
use Rattle.std.proofs.Common.{sym, ap, ◌∙◌}
use Rattle.std.specs.Prelude.{Some}
use Rattle.plan_ratios.proofs.DecimalLaws.{pointed_unfew, front_unread, back_unread, parts_less, parts_read}
use Rattle.plan_ratios.proofs.read_pointed.Goals as goal

pub returns-then-not-are_few : goal.returns-then-not-are_few
returns-then-not-are_few c = sym (pointed_unfew _ _ (sym c.are_few.ensures ∙ c.if-not-are_few.true))

pub returns-in_err-whole : goal.returns-in_err-whole
returns-in_err-whole c =
    c.from_residual.ensures ∙ sym (front_unread _ _ (sym c.are_few.ensures ∙ c.if-not-are_few.false) (sym c.in_err-whole.ensures))

pub returns-in_err-fraction : goal.returns-in_err-fraction
returns-in_err-fraction c =
    c.from_residual-in_err-fraction.ensures
    ∙ sym
    (back_unread _ _ (sym c.are_few.ensures ∙ c.if-not-are_few.false) _ (sym c.in_ok-whole.ensures) (sym c.in_err-fraction.ensures))

pub nearest_decimal-requires : goal.nearest_decimal-requires
nearest_decimal-requires c =
    parts_less _ _ (sym c.are_few.ensures ∙ c.if-not-are_few.false) _ (sym c.in_ok-whole.ensures) _ (sym c.in_ok-fraction.ensures)

pub returns : goal.returns
returns c =
    ap Some c.nearest_decimal.ensures
    ∙ sym
    (parts_read _ _ (sym c.are_few.ensures ∙ c.if-not-are_few.false) _ (sym c.in_ok-whole.ensures) _ (sym c.in_ok-fraction.ensures))
