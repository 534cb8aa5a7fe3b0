-- `plan_lines::budget::budget_held` meets its contract.
use mathlib.Core.Path.{ap, sym, ◌∙◌}
use Rattle.encoder_bit_budget.specs.Budget.{BudgetAnswer, budget_in}
use Rattle.plan_lines.proofs.BudgetLaws.{none_held}
use Rattle.plan_lines.proofs.budget.budget_held.Goals as goal

pub returns-in-Ok : goal.returns-in-Ok
returns-in-Ok c =
    let asked = c.budget-budget.ensures in
    record { whole = ap (λ (a : BudgetAnswer). a.budget) (ap budget_in (sym c.in-Ok.is) ∙ asked.whole); few = (asked.bounded c.in-Ok.b c.in-Ok.is).sblimit }

pub returns-in-Err : goal.returns-in-Err
returns-in-Err c =
    none_held _ c.in-Err.field-0 _ (ap budget_in (sym c.in-Err.is) ∙ c.budget-budget.ensures.whole) c.no_budget.ensures
