-- `plan_page::rows::heading` meets its contract.
use mathlib.Core.Path.{refl}
use Rattle.layout.specs.Layout.{channel_count}
use Rattle.plan_page.specs.Rows.{heading_line}
use Rattle.plan_page.proofs.Lengths.{heading_length, channels_small}
use Rattle.plan_page.proofs.RowLaws.{held}
use Rattle.plan_page.proofs.rows.heading.Goals as goal

pub returns : goal.returns
unfolding heading_line
returns c =
    held _ _ _ c.all_columns.ensures c.text.ensures refl (heading_length (channel_count c.args.layout) (channels_small c.args.layout))
