-- `encoder_scfsi::row_of` meets its contract: the row of two classes stands where the code reads it.
use Rattle.encoder_scfsi.proofs.TableLaws.{kept_at}
use Rattle.encoder_scfsi.proofs.row_of.Goals as goal

pub returns : goal.returns
returns c =
    rw (c.table_c4-rows.ensures, c.from.ensures, c.from-2.ensures, c.as_index.ensures.whole, c.as_index-2.ensures.whole)
    (kept_at _ _ _)
