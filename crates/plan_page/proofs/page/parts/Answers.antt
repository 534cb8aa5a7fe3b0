-- `plan_page::page::parts` meets its contract.
use Rattle.std.proofs.Common.{ap, sym, refl}
use Rattle.std.proofs.lemmas.Result.{err_from_is_err_and}
use Rattle.encoder_bit_budget.specs.Budget.{BudgetAnswer}
use Rattle.encoder_bit_demand.specs.Demand.{Demanded}
use Rattle.encoder_bit_allocator.proofs.AnswerLaws.{from_refused}
use Rattle.plan_page.proofs.PageLaws.{page_accepted, refused_page, demanded}
use Rattle.plan_page.proofs.page.parts.Goals as goal

pub returns-in_err-allocation : goal.returns-in_err-allocation
returns-in_err-allocation c =
    let p = err_from_is_err_and c.from_residual.result c.from_residual.ensures.1 in
    let a = c.in_err-allocation.ensures in
    rw (p.1, p.2) (refused_page _ _ _ _ a.whole)

pub returns-in_err-budget : goal.returns-in_err-budget
returns-in_err-budget c =
    let p = err_from_is_err_and c.from_residual-in_err-budget.result c.from_residual-in_err-budget.ensures.1 in
    let b = c.in_err-budget.ensures in
    rw (p.1, p.2) (refused_page _ _ _ _ (from_refused _ _ _ b.whole))

pub returns-in_err-demand : goal.returns-in_err-demand
returns-in_err-demand c =
    let b = c.in_ok-budget.ensures in
    let d = c.in_err-demand.ensures in
    absurd (demanded _ _ _ _ _ b.whole d.whole)

pub returns : goal.returns
returns c =
    let a = c.in_ok-allocation.ensures in
    let b = c.in_ok-budget.ensures in
    let d = c.in_ok-demand.ensures in
    sym
    (page_accepted _ _ _ _ a.whole _ _ _ (ap (λ (x : BudgetAnswer). x.budget) b.whole) c.offered_bits.ensures
    (ap (λ (x : Demanded). x.bits) d.whole) refl)
