-- `side_page::refusal::reserved` meets its contract.
use lib.Dec.{lit≤}
use Rattle.text_line.proofs.LineLaws.{alone}
use Rattle.side_page.proofs.refusal.reserved.Goals as goal

pub returns : goal.returns
returns c = alone _ c.new.ensures c.text.ensures (lit≤ tt)
