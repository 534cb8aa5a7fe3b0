-- `bitalloc::BitAllocTable::nb_steps` meets its contract: the row as the code has it holds the steps at each of its places.
use Rattle.bitalloc.proofs.KeptLaws.{places_are, row_is}
use Rattle.bitalloc.proofs.RowLaws.{steps_there, steps_past}
use Rattle.bitalloc.proofs.BitAllocTable.nb_steps.Goals as goal

pub returns-then-at-places : goal.returns-then-at-places
returns-then-at-places c =
    let e = c.range-range.ensures.whole in
    steps_there _ _ _ _ _ (row_is _ _ _ _ e c.row_in-row.ensures) (places_are _ _ _ _ e c.places.ensures).whole c.if-at-places.true

pub returns-else-at-places : goal.returns-else-at-places
returns-else-at-places c =
    steps_past _ _ _ _ (places_are _ _ _ _ c.range-range.ensures.whole c.places.ensures).whole c.if-at-places.false
