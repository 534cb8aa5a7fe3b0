-- `layout::slots::rows` meets its contract: it is its two rows.
use Rattle.layout.specs.Slots.{smr_rows}
use Rattle.layout.proofs.slots.rows.Goals as goal

pub returns : goal.returns
unfolding smr_rows
returns c = rw (c.row.ensures, c.row-2.ensures)
