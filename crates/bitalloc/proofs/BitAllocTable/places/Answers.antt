-- `bitalloc::BitAllocTable::places` meets its contract: what the subband's range has.
use Rattle.bitalloc.proofs.KeptLaws.{places_are}
use Rattle.bitalloc.proofs.BitAllocTable.places.Goals as goal

pub returns : goal.returns
returns c = places_are _ _ _ _ c.range.ensures.whole c.places.ensures
