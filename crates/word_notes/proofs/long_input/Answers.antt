-- `word_notes::long_input` meets its contract.
use lib.Dec.{lit≤}
use Rattle.text_line.proofs.LineLaws.{alone}
use Rattle.word_notes.proofs.long_input.Goals as goal

pub returns : goal.returns
returns c = alone _ c.new.ensures c.text.ensures (lit≤ tt)
