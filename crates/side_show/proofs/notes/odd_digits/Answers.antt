-- `side_show::notes::odd_digits` meets its contract.
use mathlib.Core.Path.{◌∙◌}
use Rattle.text_line.proofs.LineLaws.{cut_whole}
use Rattle.word_notes.proofs.NoteLaws.{after}
use Rattle.side_show.specs.Notes.{odd_digits_text}
use Rattle.side_show.proofs.NoteLaws.{odd_digits_length}
use Rattle.side_show.proofs.notes.odd_digits.Goals as goal

pub returns : goal.returns
unfolding odd_digits_text
returns c =
    after _ _ c.on_line.ensures c.text.ensures ∙ cut_whole _ (odd_digits_length c.args.line)
