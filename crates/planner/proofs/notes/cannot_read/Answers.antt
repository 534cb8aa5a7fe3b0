-- `planner::notes::cannot_read` meets its contract.
use mathlib.Core.Path.{◌∙◌}
use Rattle.text_line.proofs.LineLaws.{cut_whole}
use Rattle.planner.specs.Notes.{cannot_read_text}
use Rattle.word_notes.proofs.NoteLaws.{after}
use Rattle.planner.proofs.NoteLaws.{cannot_read_length}
use Rattle.planner.proofs.notes.cannot_read.Goals as goal

pub returns : goal.returns
unfolding cannot_read_text
returns c =
    after _ _ c.on_line.ensures c.text.ensures ∙ cut_whole _ (cannot_read_length c.args.line)
