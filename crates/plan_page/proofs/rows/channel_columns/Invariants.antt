use mathlib.Core.Path.{◌≡◌}
use mathlib.Core.List.{◌++◌}
use Rattle.text_line.specs.Line.{text_of, cut}
use Rattle.plan_page.specs.Rows.{joined, row_start, channel_columns}
use Rattle.plan_page.proofs.rows.channel_columns.Given as goal

abbrev pub invariant-loop-ch : goal.invariant-loop-ch
invariant-loop-ch l = text_of l.line ≡ cut (row_start l.sb ++ joined (channel_columns l.steps l.smr_db l.sb) l.ch)
