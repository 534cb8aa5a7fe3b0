-- `side_show::notes::wrong_character` meets its contract.
use mathlib.Core.Path.{◌∙◌}
use Rattle.text_line.proofs.LineLaws.{behind, cut_whole}
use Rattle.word_notes.proofs.NoteLaws.{after}
use Rattle.side_show.specs.Notes.{wrong_character_text}
use Rattle.side_show.proofs.NoteLaws.{wrong_character_length}
use Rattle.side_show.proofs.notes.wrong_character.Goals as goal

pub returns : goal.returns
unfolding wrong_character_text
returns c =
    behind _ _ (behind _ _ (after _ _ c.on_line.ensures c.text.ensures) c.number-place.ensures) c.text-2.ensures
    ∙ cut_whole _ (wrong_character_length c.args.line c.args.column)
