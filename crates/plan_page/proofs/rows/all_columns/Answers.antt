-- `plan_page::rows::all_columns` meets its contract. The loop's invariant: the columns so far.
use Rattle.plan_text.specs.Quoted.{text}
use Rattle.plan_page.specs.Rows.{column_heads}
use Rattle.plan_page.proofs.RowLaws.{one_more}
use Rattle.plan_page.proofs.rows.all_columns.Goals as goal

pub loop-preserved : goal.loop-preserved
loop-preserved c = one_more (text "subband |") (λ ch. column_heads) c.loop.counter c.loop.invariant c.text-line-in-loop.ensures
