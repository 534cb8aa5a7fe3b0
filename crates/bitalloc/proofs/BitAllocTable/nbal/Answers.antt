-- `bitalloc::BitAllocTable::nbal` meets its contract: what the subband's range has.
use Rattle.bitalloc.proofs.KeptLaws.{nbal_is}
use Rattle.bitalloc.proofs.BitAllocTable.nbal.Goals as goal

pub returns : goal.returns
returns c = nbal_is _ _ _ _ c.range.ensures.whole c.nbal.ensures
