-- `encoder_bit_demand::demand_bits` meets its contract: what the layout of the budget demands, or the budget's refusal.
use Rattle.std.proofs.lemmas.Result.{err_from_is_err_and}
use Rattle.encoder_bit_demand.proofs.DemandLaws.{demand_refused, demand_met}
use Rattle.encoder_bit_demand.proofs.demand_bits.Goals as goal

pub returns-in_err-budget : goal.returns-in_err-budget
returns-in_err-budget c =
    let p = err_from_is_err_and c.from_residual.result c.from_residual.ensures.1 in
    let b = c.in_err-budget.ensures in
    rw (p.1, p.2) (demand_refused _ _ _ b.whole)

pub returns : goal.returns
returns c = let b = c.in_ok-budget.ensures in demand_met _ _ _ _ _ b.whole c.layout.ensures c.layout_demand.ensures
