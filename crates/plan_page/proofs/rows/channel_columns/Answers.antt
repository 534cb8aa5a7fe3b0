-- `plan_page::rows::channel_columns` meets its contract. The loop's invariant: the columns so far.
use Rattle.plan_page.specs.Rows.{row_start, channel_columns}
use Rattle.plan_page.proofs.RowLaws.{one_more}
use Rattle.plan_page.proofs.rows.channel_columns.Goals as goal

pub loop-ch-preserved : goal.loop-ch-preserved
loop-ch-preserved c =
    let given = c.args in
    one_more (row_start given.sb) (channel_columns given.steps.now given.smr_db.now given.sb) c.loop-ch.ch c.loop-ch.invariant c.slot_columns-line.ensures
