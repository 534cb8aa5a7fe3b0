-- `c_side_info_read::codes_of` meets its contract. The loop's invariant: the codes of the slots below `slot` are found.
use Rattle.std.proofs.Common.{refl}
use Rattle.c_side_info_read.proofs.CodeLaws.{none_coded, one_coded, all_coded}
use Rattle.c_side_info_read.proofs.codes_of.Goals as goal

pub loop-slot-init : goal.loop-slot-init
loop-slot-init c = none_coded _ _ refl

pub loop-slot-preserved : goal.loop-slot-preserved
loop-slot-preserved c = one_coded _ _ _ _ c.loop-slot-test.true c.code.ensures.whole c.loop-slot.invariant

pub returns : goal.returns
returns c = all_coded _ _ _ c.told-slots c.loop-slot-test.false c.loop-slot.invariant
