-- `encoder_bit_budget::Request::budget` meets its contract.
use Rattle.std.proofs.Common.{sym, ◌∙◌}
use Rattle.std.proofs.lemmas.Result.{err_from_is_err_and}
use Rattle.encoder_bit_budget.specs.declared.BitAllocError.TheVariants.{RateOffLadder, NoBitallocTable}
use Rattle.encoder_bit_budget.proofs.BudgetLaws.{present, missing, off_ladder, no_table, refused, same_budget}
use Rattle.encoder_bit_budget.proofs.Request.budget.Goals as goal

pub returns-then-not-on_ladder : goal.returns-then-not-on_ladder
returns-then-not-on_ladder c = refused _ RateOffLadder (off_ladder _ (sym c.on_ladder.ensures ∙ c.if-not-on_ladder.true))

pub returns-in_err-table : goal.returns-in_err-table
returns-in_err-table c =
    let p = err_from_is_err_and c.from_residual.result c.from_residual.ensures.1 in
    let m = missing _ _ _ c.in_err-table.ensures.value in
    rw (p.1, p.2, m.1)
    (refused _ NoBitallocTable
    (no_table _ (sym c.on_ladder.ensures ∙ c.if-not-on_ladder.false) (sym c.select_table.ensures ∙ m.0)))

-- the table that is handed on is the header's
pub budget_under-requires-clause-named : goal.budget_under-requires-clause-named
budget_under-requires-clause-named c = sym c.select_table.ensures ∙ present _ _ _ c.in_ok-table.ensures.value

pub returns : goal.returns
returns c = same_budget _ _ c.budget_under.ensures
