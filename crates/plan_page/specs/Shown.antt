-- The page that a request's parts, or its refusal, stand for.
-- For the contracts of private functions alone: nothing that a caller has to believe stands here.
use Rattle.std.specs.Prelude.{ℕ, List, [], ◌∷◌, Result, Ok, Err}
use Rattle.header.specs.declared.FrameHeader.{FrameHeader}
use Rattle.encoder_bit_budget.specs.declared.BitAllocError.{BitAllocError}
use Rattle.plan_lines.specs.Held.{told}
use Rattle.plan_lines.specs.Refusal.{refusal_line}
use Rattle.plan_page.specs.declared.accepted.Accepted.{Accepted}
use Rattle.plan_page.specs.Page.{accepted_page}

abbrev pub page_in : FrameHeader → Result Accepted BitAllocError → List (List ℕ)
page_in h (Ok a) = accepted_page a.budget a.offered a.demand a.steps a.left a.smr_db
page_in h (Err e) = told (refusal_line h) e ∷ []
