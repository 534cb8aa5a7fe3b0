-- `encoder_bit_budget::budget_with` meets its contract.
use Rattle.encoder_bit_budget.proofs.BudgetLaws.{filled}
use Rattle.encoder_bit_budget.proofs.budget_with.Goals as goal

pub returns : goal.returns
returns c =
    let given = c.args in
    filled given.cb _ _ _ given.layout given.protection_bit c.crc_bits-bcrc.ensures c.allocation_bits-bbal.ensures c.sblimit.ensures.whole
