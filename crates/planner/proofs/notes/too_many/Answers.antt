-- `planner::notes::too_many` meets its contract.
use mathlib.Core.Path.{◌∙◌}
use Rattle.text_line.proofs.LineLaws.{behind, cut_whole}
use Rattle.planner.specs.Notes.{too_many_text}
use Rattle.word_notes.proofs.NoteLaws.{after}
use Rattle.planner.proofs.NoteLaws.{too_many_length}
use Rattle.planner.proofs.notes.too_many.Goals as goal

pub returns : goal.returns
unfolding too_many_text
returns c =
    behind _ _ (behind _ _ (after _ _ c.on_line.ensures c.text.ensures) c.number.ensures) c.text-2.ensures
    ∙ cut_whole _ (too_many_length c.args.line c.args.slots)
