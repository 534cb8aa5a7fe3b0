-- `encoder_bit_demand::field_smr` meets its contract.
use mathlib.Core.Path.{refl}
use Rattle.encoder_bit_demand.proofs.DemandLaws.{larger}
use Rattle.encoder_bit_demand.proofs.field_smr.Goals as goal

pub returns-then-field : goal.returns-then-field
returns-then-field c =
    let given = c.args in
    larger given.smr_db.now given.field _ c.if-field.true c.max.ensures

pub returns-else-field : goal.returns-else-field
returns-else-field c = rw c.if-field.false refl
