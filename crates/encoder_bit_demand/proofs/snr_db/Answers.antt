-- `encoder_bit_demand::snr_db` meets its contract: what stands in the table at the row of the steps is their ratio.
use native.Mathlib.Omega.{arith}
use Rattle.encoder_bit_demand.proofs.SnrLaws.{row_in, snr_there, snr_missing}
use Rattle.encoder_bit_demand.proofs.snr_db.Goals as goal

pub returns-in_err-row : goal.returns-in_err-row
returns-in_err-row c = rw c.from_residual.ensures (snr_missing _ c.in_err-row.ensures)

pub offset_bounds-snr_table-row : goal.offset_bounds-snr_table-row
offset_bounds-snr_table-row c =
    let h = row_in _ _ c.in_ok-row.ensures in
    omega arith

pub bounds-snr_table-row : goal.bounds-snr_table-row
bounds-snr_table-row c = row_in _ _ c.in_ok-row.ensures

pub returns : goal.returns
returns c = snr_there _ _ c.in_ok-row.ensures c.snr_table.result.now c.snr_table.ensures
