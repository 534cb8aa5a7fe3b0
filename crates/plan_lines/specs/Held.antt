-- What a page is made of: a budget, or a refusal.
use Rattle.std.specs.Prelude.{ℕ, ◌≤◌, ◌≡◌, List}
use Rattle.encoder_bit_budget.specs.declared.Request.{Request}
use Rattle.encoder_bit_budget.specs.declared.BitAllocError.{BitAllocError}
use Rattle.encoder_bit_budget.specs.declared.BitAllocError.TheVariants.{RateOffLadder, NoBitallocTable, ZeroSampleRate, InsufficientFrameSize}
use Rattle.encoder_bit_budget.specs.declared.FixedBitBudget.{FixedBitBudget}
use Rattle.encoder_bit_budget.specs.Budget.{budget_of}

-- the budget of a request, or the filler; either carries at most 30 subbands
pub record BudgetHeld (q : Request) (b : FixedBitBudget) : Type 0 where
  pub whole : b ≡ (budget_of q).budget
  pub few : b.sblimit ≤ 30

-- what is said of an allocation's refusal, from its number and what stands beside 4
abbrev pub told : (ℕ → ℕ → ℕ → ℕ → List ℕ) → BitAllocError → List ℕ
told said RateOffLadder = said 16 0 0 0
told said NoBitallocTable = said 1 0 0 0
told said ZeroSampleRate = said 2 0 0 0
told said (InsufficientFrameSize cb fixed banc) = said 4 cb fixed banc
