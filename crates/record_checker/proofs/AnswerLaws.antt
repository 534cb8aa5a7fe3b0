-- The answer under a header: by its number where it is refused, by the slots where it is accepted.
use Rattle.std.specs.Prelude.{Ok, Err}
use mathlib.Core.Path.{◌≡◌, sym, ap, ◌∙◌}
use Prim.Native.Nat.{ℕ}
use lib.Dec.{eqb}
use borrow.Author.Tests.{eq-eqb}
use Rattle.header.specs.declared.FrameHeader.{FrameHeader}
use Rattle.header.specs.Questions.{number}
use Rattle.layout.specs.declared.Layout.{Layout}
use Rattle.encoder_bit_budget.specs.declared.FixedBitBudget.{FixedBitBudget}
use Rattle.encoder_bit_budget.specs.declared.BitAllocError.{BitAllocError}
use Rattle.encoder_bit_budget.specs.Budget.{plain, header_asked, error_number, budget_in, budget_of, layout_in}
use Rattle.encoder_bit_budget.proofs.BudgetLaws.{apart, answer_is}
use Rattle.side_info.specs.declared.SideInfo.{SideInfo}
use Rattle.side_info.specs.SideInfo.{header_layout}
use Rattle.side_info.proofs.HeaderLaws.{same_layout}
use Rattle.record_check.specs.Check.{CheckAnswer, about_none, slots_asked, in_order, check_of}
use Rattle.record_check.proofs.PromiseLaws.{slots_answer, header_refused, header_accepted}
use Rattle.record_checker.specs.OnTheWay.{check_under}

module _ (h : FrameHeader) (s : SideInfo) where
  pub from_refused : (e : BitAllocError) → budget_in (Err e) ≡ budget_of (plain h 0) → about_none (error_number e) ≡ check_of h s
  from_refused e p =
      let z : number (header_asked h) ≡ error_number e = sym (answer_is (plain h 0)) ∙ sym (ap (λ a. a.answer) p) in
      ap about_none (sym z) ∙ sym (header_refused h s (ap (λ (m : ℕ). eqb m 0) z ∙ apart e))

  under : (l : Layout) → check_under l s ≡ slots_answer l s in_order
  unfolding check_under slots_asked
  under l = λ i. check_under l s

  pub from_accepted : (b : FixedBitBudget) (l : Layout) (r : CheckAnswer) → budget_in (Ok b) ≡ budget_of (plain h 0) → l ≡ layout_in b → r ≡ check_under l s → r ≡ check_of h s
  from_accepted b l r ok e made =
      let z : number (header_asked h) ≡ 0 = sym (answer_is (plain h 0)) ∙ sym (ap (λ a. a.answer) ok) in
      made ∙ ap (λ (k : Layout). check_under k s) (e ∙ same_layout h b ok) ∙ under (header_layout h) ∙ sym (header_accepted h s (eq-eqb (number (header_asked h)) 0 z))
