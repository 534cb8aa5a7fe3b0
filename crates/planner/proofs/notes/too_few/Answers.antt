-- `planner::notes::too_few` meets its contract.
use mathlib.Core.Path.{◌∙◌}
use Rattle.text_line.proofs.LineLaws.{behind, cut_whole}
use Rattle.planner.specs.Notes.{too_few_text}
use Rattle.word_notes.proofs.NoteLaws.{after}
use Rattle.planner.proofs.NoteLaws.{too_few_length}
use Rattle.planner.proofs.notes.too_few.Goals as goal

pub returns : goal.returns
unfolding too_few_text
returns c =
    let e = behind _ _ (after _ _ c.on_line.ensures c.text.ensures) c.number-ends.ensures in
    behind _ _ (behind _ _ (behind _ _ e c.text-2.ensures) c.number.ensures) c.text-3.ensures
    ∙ cut_whole _ (too_few_length c.args.line c.args.count c.args.slots)
