-- `layout::Layout::of_header` meets its contract.
use Rattle.layout.proofs.HeaderLaws.{laid_out}
use Rattle.layout.proofs.Layout.of_header.Goals as goal

pub returns : goal.returns
returns c =
    laid_out _ _ _ _ c.shared_from-bound.ensures c.channels-channels.ensures c.sblimit.ensures.whole
