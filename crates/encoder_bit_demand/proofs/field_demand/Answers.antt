-- `encoder_bit_demand::field_demand` meets its contract.
use native.Mathlib.Omega.{arith}
use Rattle.bitalloc.proofs.RowLaws.{sblimit_small}
use Rattle.encoder_bit_demand.proofs.DemandLaws.{RowRead, row_read, field_demand_lem}
use Rattle.encoder_bit_demand.proofs.field_demand.Goals as goal
use Rattle.encoder_bit_demand.proofs.field_demand.Goals.{After-places-places}

-- what was read
read : (c : After-places-places) → RowRead c.args.table c.args.field.subband c.places-places.result c.row-row.result
read c = row_read _ _ _ _ c.requires.0 c.places-places.ensures.whole c.row-row.ensures

pub field_smr-smr-requires : goal.field_smr-smr-requires
field_smr-smr-requires c = (omega (arith, c.requires.0, sblimit_small c.args.table), c.requires.1)

pub needed_bits-requires : goal.needed_bits-requires
needed_bits-requires c =
    let r = read (goal.at.needed_bits-requires c).After-places-places in
    (r.least, c.first_step_bits.ensures.most)

pub returns : goal.returns
returns c =
    field_demand_lem _ _ _ _ _ _ _ (read (goal.at.returns c).After-places-places).taken c.field_smr-smr.ensures c.first_step_bits.ensures c.needed_bits.ensures
