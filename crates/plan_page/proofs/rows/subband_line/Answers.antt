-- `plan_page::rows::subband_line` meets its contract.
use mathlib.Core.Path.{refl}
use Rattle.plan_page.proofs.Lengths.{subband_length}
use Rattle.plan_page.proofs.RowLaws.{held, row_is}
use Rattle.plan_page.proofs.rows.subband_line.Goals as goal

pub returns : goal.returns
returns c =
    let given = c.args in
    held _ _ _ c.channel_columns.ensures c.number_in.ensures
    (row_is given.layout given.steps given.smr_db given.sb _ _ refl c.subband_bits-bits.ensures.whole)
    (subband_length given.layout given.steps given.smr_db given.sb)
