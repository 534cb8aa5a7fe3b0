-- What the functions find on the way to the allocation.
-- For the contracts of private functions alone: nothing that a caller has to believe stands here.
use Rattle.std.specs.Prelude.{ℕ, ◌<◌, ◌≡◌, List, [], ◌∷◌, Float, length, get_or}
use Rattle.header.specs.Questions.{number}
use Rattle.layout.specs.declared.Layout.{Layout}
use Rattle.layout.specs.Layout.{fields_of}
use Rattle.encoder_bit_budget.specs.declared.FixedBitBudget.{FixedBitBudget}
use Rattle.encoder_bit_allocator.specs.Allocation.{AllocationAnswer, bits_asked, worst_case, allocation_in}

-- the worst case, as far as there are fields
unfoldable pub CostsAre : Layout → List ℕ → Type 0
CostsAre l costs = (f : ℕ) → f < length (fields_of l) → get_or costs f 0 ≡ get_or (worst_case l) f 0

-- the answer under an accepted budget: the bits are asked
unfoldable pub allocation_under : FixedBitBudget → List (List Float) → ℕ → AllocationAnswer
allocation_under b smr banc = allocation_in b smr banc (number (bits_asked b banc ∷ []))
