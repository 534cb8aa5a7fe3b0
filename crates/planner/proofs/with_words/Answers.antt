-- `planner::with_words` meets its contract.
use Rattle.text_line.proofs.PageLaws.{moved}
use Rattle.planner.proofs.PlanLaws.{good_ratios, bad_ratios}
use Rattle.planner.proofs.with_words.Goals as goal

pub returns-in-Ok : goal.returns-in-Ok
returns-in-Ok c =
    moved c.args.n (good_ratios c.args.words c.args.input.now _ c.slots_for-wanted.ensures _ c.in-Ok.ensures _ c.rows.ensures) c.page_line.ensures

pub returns-in-Err : goal.returns-in-Err
returns-in-Err c =
    moved c.args.n (bad_ratios c.args.words c.args.input.now _ c.slots_for-wanted.ensures _ c.in-Err.ensures _ c.ratios_line.ensures) c.only.ensures
