-- `side_page::refusal::cut_short` meets its contract.
use Rattle.text_line.specs.Line.{text_of}
use Rattle.text_line.proofs.LineLaws.{more, alone}
use Rattle.side_page.specs.Page.{cut_short_text}
use Rattle.side_page.proofs.Lengths.{cut_short_length}
use Rattle.side_page.proofs.refusal.cut_short.Goals as goal

pub returns : goal.returns
unfolding cut_short_text
returns c =
    let t = text_of c.new.result in
    alone _ c.new.ensures (more t _ _ (more t _ _ c.text.ensures c.number.ensures) c.text-2.ensures) (cut_short_length c.args.given)
