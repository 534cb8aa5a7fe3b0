-- `side_rows::indices` meets its contract.
use Rattle.text_line.specs.Line.{text_of}
use Rattle.text_line.proofs.LineLaws.{more}
use Rattle.side_rows.specs.Rows.{indices_text}
use Rattle.side_rows.proofs.indices.Goals as goal

pub returns : goal.returns
unfolding indices_text
returns c =
    let t = text_of c.args.line in
    more t _ _ (more t _ _ c.number_in.ensures c.number_in-2.ensures) c.number_in-3.ensures
