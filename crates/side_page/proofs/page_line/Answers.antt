-- `side_page::page_line` meets its contract.
use Rattle.std.proofs.Common.{refl}
use Rattle.text_line.proofs.PageLaws.{moved}
use Rattle.side_page.proofs.PageLaws.{page_accepted, page_refused, refused_number}
use Rattle.side_page.proofs.page_line.Goals as goal

pub returns-in-Ok : goal.returns-in-Ok
returns-in-Ok c =
    rw c.in-Ok.is
    (moved c.args.n (page_accepted _ _ _ _ c.budget_held-b.ensures.whole refl _ c.layout.ensures _ c.active_slots-active.ensures) c.accepted_line.ensures)

pub returns-in-Err : goal.returns-in-Err
returns-in-Err c =
    rw c.in-Err.is (moved c.args.n (page_refused _ _ _ _ (refused_number c.in-Err.error) c.refused_line.ensures) c.only.ensures)
