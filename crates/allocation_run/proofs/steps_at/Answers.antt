-- `allocation_run::steps_at` meets its contract.
use mathlib.Core.Path.{sym, ap, ◌∙◌}
use native.Mathlib.Omega.{arith}
use Rattle.allocation_run.proofs.HeldLaws.{steps_found_lem, steps_past, steps_none}
use Rattle.allocation_run.proofs.steps_at.Goals as goal

pub returns-in_default : goal.returns-in_default
returns-in_default c =
    steps_none _ _ _ _ (sym c.field_serving-serving.ensures.whole ∙ c.in_default.is)

pub bounds-places-field : goal.bounds-places-field
bounds-places-field c =
    omega (arith, c.field_serving-serving.ensures.below c.in-Some.field c.in-Some.is)

pub returns-then-place-lt16 : goal.returns-then-place-lt16
returns-then-place-lt16 c =
    steps_found_lem _ _ _ _ c.in-Some.field _ (sym c.field_serving-serving.ensures.whole ∙ c.in-Some.is)
    c.if-place-lt16.true c.row-row.ensures

pub returns-else-place-lt16 : goal.returns-else-place-lt16
returns-else-place-lt16 c =
    steps_past _ _ _ _ c.in-Some.field (sym c.field_serving-serving.ensures.whole ∙ c.in-Some.is) c.if-place-lt16.false
