-- `side_rows::row_line` meets its contract.
use mathlib.Core.Path.{◌∙◌}
use Rattle.side_rows.specs.Rows.{three_in}
use Rattle.text_line.proofs.LineLaws.{behind, cut_whole}
use Rattle.side_rows.specs.Rows.{row_line}
use Rattle.side_rows.proofs.RowLaws.{row_length}
use Rattle.side_rows.proofs.row_line.Goals as goal

pub returns : goal.returns
unfolding row_line
returns c =
    let given = c.args in
    let indices = behind _ _ c.row_start.ensures c.indices-line.ensures in
    behind _ _ (behind _ _ (behind _ _ indices c.multiplier.ensures) c.multiplier-2.ensures) c.multiplier-3.ensures
    ∙ cut_whole _ (row_length given.slot given.nb_steps given.code (three_in given.index))
