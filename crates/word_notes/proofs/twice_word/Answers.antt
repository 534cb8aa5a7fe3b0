-- `word_notes::twice_word` meets its contract.
use Rattle.text_line.specs.Line.{text_of}
use Rattle.text_line.proofs.LineLaws.{more, alone}
use Rattle.word_notes.specs.Notes.{twice_text}
use Rattle.word_notes.proofs.NoteLaws.{twice_length}
use Rattle.word_notes.proofs.twice_word.Goals as goal

pub returns : goal.returns
unfolding twice_text
returns c =
    let t = text_of c.new.result in
    alone _ c.new.ensures (more t _ _ (more t _ _ c.text.ensures c.with_excerpt-line.ensures) c.text-2.ensures)
    (twice_length c.args.words.now c.args.place)
