-- The page that answers a request: a header, the ancillary bits and the signal-to-mask ratios.
use Rattle.std.specs.Prelude.{ℕ, ◌-◌, cond, List, [], ◌∷◌, ◌++◌, eqb, Float}
use Rattle.tables.specs.Listed.{tabulate}
use Rattle.header.specs.declared.FrameHeader.{FrameHeader}
use Rattle.layout.specs.Layout.{channel_count}
use Rattle.encoder_bit_budget.specs.declared.FixedBitBudget.{FixedBitBudget}
use Rattle.encoder_bit_budget.specs.Budget.{plain, budget_of, fixed_in, layout_in, offered_of, natural}
use Rattle.encoder_bit_demand.specs.Demand.{demand_of}
use Rattle.encoder_bit_allocator.specs.Allocation.{AllocationAnswer, allocation_of}
use Rattle.plan_text.specs.Quoted.{text}
use Rattle.plan_page.specs.Rows.{heading_line, subband_line}
use Rattle.plan_lines.specs.Lines.{frame_line, bits_line, demand_line}
use Rattle.plan_lines.specs.Refusal.{refusal_line}

-- the lines above the rows
abbrev pub head_of : FixedBitBudget → ℕ → ℕ → List (List ℕ)
head_of b offered demand =
    frame_line b
    ∷ bits_line (text "fixed   ") (fixed_in b)
    ∷ bits_line (text "offered ") offered
    ∷ demand_line demand offered
    ∷ []
    ∷ heading_line (channel_count (layout_in b))
    ∷ []

-- the lines below them: what is charged is what is no longer left
abbrev pub foot_of : ℕ → ℕ → List (List ℕ)
foot_of offered left = [] ∷ bits_line (text "charged ") (offered - left) ∷ bits_line (text "left    ") left ∷ []

unfoldable pub accepted_page : FixedBitBudget → ℕ → ℕ → List ℕ → ℕ → List (List Float) → List (List ℕ)
accepted_page b offered demand steps left smr =
    head_of b offered demand ++ tabulate b.sblimit (subband_line (layout_in b) steps smr) ++ foot_of offered left

-- the page from what the budget, the offer, the demand and the allocation answer
unfoldable pub page_by : FrameHeader → List (List Float) → FixedBitBudget → ℕ → ℕ → AllocationAnswer → List (List ℕ)
page_by h smr b offered demand a =
    cond (eqb a.number 0)
    (accepted_page b offered demand a.audio.nb_steps a.left smr)
    (refusal_line h a.number a.cb a.fixed a.banc ∷ [])

-- the whole page, line by line
unfoldable pub page_of : FrameHeader → ℕ → List (List Float) → List (List ℕ)
page_of h banc smr =
    let q = plain h banc in
    page_by h smr (budget_of q).budget (natural (offered_of q)) (demand_of h smr).bits (allocation_of q smr)
