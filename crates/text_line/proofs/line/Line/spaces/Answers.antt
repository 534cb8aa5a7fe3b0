use Rattle.text_line.specs.Line.{text_of}
use Rattle.text_line.proofs.LineLaws.{blanks}
use Rattle.text_line.proofs.line.Line.spaces.Goals as goal

pub returns : goal.returns
returns c = blanks (text_of c.args.self) c.args.n _ c.min.ensures c.text.ensures
