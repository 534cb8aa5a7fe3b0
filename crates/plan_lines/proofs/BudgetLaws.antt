-- The budget of a refused header.
use Rattle.std.specs.Prelude.{Err}
use mathlib.Core.Path.{◌≡◌, ap, ◌∙◌}
use native.Mathlib.Omega.{arith}
use Rattle.encoder_bit_budget.specs.declared.FixedBitBudget.{FixedBitBudget}
use Rattle.encoder_bit_budget.specs.declared.Request.{Request}
use Rattle.encoder_bit_budget.specs.declared.BitAllocError.{BitAllocError}
use Rattle.encoder_bit_budget.specs.Budget.{BudgetAnswer, budget_in, budget_of, no_budget}
use Rattle.plan_lines.specs.Held.{BudgetHeld}

-- a refused header has the filler
pub none_held : (q : Request) (e : BitAllocError) (b : FixedBitBudget) → budget_in (Err e) ≡ budget_of q → b ≡ no_budget → BudgetHeld q b
none_held q e b p z = record { whole = z ∙ ap (λ (a : BudgetAnswer). a.budget) p; few = rw z (omega arith) }
