-- `c_side_info::record::slots` meets its contract. The loop's invariant: the codes of the slots below `slot` are read.
use Rattle.std.proofs.Common.{refl}
use Rattle.c_side_info.proofs.SlotLaws.{none_meant, one_meant, all_meant}
use Rattle.c_side_info.proofs.record.slots.Goals as goal

pub loop-slot-init : goal.loop-slot-init
loop-slot-init c = none_meant _ _ refl

pub loop-slot-preserved : goal.loop-slot-preserved
loop-slot-preserved c = one_meant _ _ _ _ c.loop-slot-test.true c.of_code.ensures c.loop-slot.invariant

pub returns : goal.returns
returns c = all_meant _ _ _ c.told-codes c.loop-slot-test.false c.loop-slot.invariant
