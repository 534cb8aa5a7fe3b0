-- `encoder_bit_demand::first_step_bits` meets its contract.
use mathlib.Core.Path.{refl}
use mathlib.Core.Bool.{true, false}
use Rattle.encoder_bit_demand.proofs.DemandLaws.{first_step_lem}
use Rattle.encoder_bit_demand.proofs.first_step_bits.Goals as goal

pub returns-then-field : goal.returns-then-field
returns-then-field c = first_step_lem _ true _ c.if-field.true refl

pub returns-else-field : goal.returns-else-field
returns-else-field c = first_step_lem _ false _ c.if-field.false refl
