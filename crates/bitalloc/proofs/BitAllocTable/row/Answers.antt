-- `bitalloc::BitAllocTable::row` meets its contract: the row that is kept of the subband's range.
use Rattle.bitalloc.proofs.KeptLaws.{row_is}
use Rattle.bitalloc.proofs.BitAllocTable.row.Goals as goal

pub returns : goal.returns
returns c = row_is _ _ _ _ c.range.ensures.whole c.row_in.ensures
