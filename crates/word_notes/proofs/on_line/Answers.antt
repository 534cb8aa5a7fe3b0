-- `word_notes::on_line` meets its contract.
use native.Mathlib.Omega.{arith}
use Rattle.text_line.specs.Line.{text_of}
use Rattle.text_line.proofs.LineLaws.{more, alone}
use Rattle.word_notes.specs.Notes.{on_line}
use Rattle.word_notes.proofs.NoteLaws.{on_line_length}
use Rattle.word_notes.proofs.on_line.Goals as goal

pub returns : goal.returns
unfolding on_line
returns c =
    let n = c.args.line in
    alone _ c.new.ensures (more (text_of c.new.result) _ _ c.text.ensures c.number.ensures) (let h = on_line_length n in omega arith)
