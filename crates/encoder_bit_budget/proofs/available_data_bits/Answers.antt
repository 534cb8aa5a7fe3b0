-- `encoder_bit_budget::available_data_bits` meets its contract: what is offered by the budget, or its refusal.
use Rattle.std.proofs.Common.{w64, ◌∙◌}
use Rattle.std.proofs.lemmas.Int.{to_z-of_z}
use Rattle.std.proofs.lemmas.Result.{err_from_is_err_and}
use Rattle.encoder_bit_budget.proofs.AvailableLaws.{offer_refused, offer_made}
use Rattle.encoder_bit_budget.proofs.available_data_bits.Goals as goal

pub returns-in_err-budget : goal.returns-in_err-budget
returns-in_err-budget c =
    let p = err_from_is_err_and c.from_residual.result c.from_residual.ensures.1 in
    let b = c.in_err-budget.ensures in
    rw (p.1, p.2) (offer_refused _ _ b.whole)

pub returns : goal.returns
returns c =
    let b = c.in_ok-budget.ensures in
    offer_made _ _ _ b.whole (to_z-of_z w64 _ (record { sfits = c.offered.type_inv }) ∙ c.offered.ensures)
