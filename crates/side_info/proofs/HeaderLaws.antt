-- The layout of an accepted header.
use Rattle.std.specs.Prelude.{Ok}
use mathlib.Core.Path.{◌≡◌, sym, ap, ◌∙◌}
use Rattle.header.specs.declared.FrameHeader.{FrameHeader}
use Rattle.layout.specs.Layout.{layout_of}
use Rattle.encoder_bit_budget.specs.declared.FixedBitBudget.{FixedBitBudget}
use Rattle.encoder_bit_budget.specs.Budget.{plain, budget_in, budget_of, layout_in}
use Rattle.encoder_bit_budget.proofs.BudgetLaws.{table_is, layout_is}
use Rattle.side_info.specs.SideInfo.{header_layout, or_b2a}

-- it is the budget's
pub same_layout : (h : FrameHeader) (b : FixedBitBudget) → budget_in (Ok b) ≡ budget_of (plain h 0) → layout_in b ≡ header_layout h
same_layout h b ok = layout_is (plain h 0) b ok ∙ ap (λ o. layout_of h (or_b2a o)) (sym (table_is (plain h 0) b ok))
