-- `side_info_reader::steps_at` meets its contract: the row's number at the place.
use Rattle.bitalloc.proofs.RowLaws.{row_number_lem, steps_small}
use Rattle.side_info_reader.proofs.steps_at.Goals as goal

pub returns : goal.returns
returns c =
    let a = c.args in
    let v = row_number_lem a.table a.sb a.place c.row-row.result c.row-row.ensures c.requires in
    record { whole = v; most = rw v (steps_small a.table a.sb a.place) }
