use mathlib.Core.Path.{◌≡◌}
use mathlib.Core.List.{◌++◌}
use Rattle.plan_text.specs.Quoted.{text}
use Rattle.text_line.specs.Line.{text_of, cut}
use Rattle.plan_page.specs.Rows.{joined, column_heads}
use Rattle.plan_page.proofs.rows.all_columns.Given as goal

abbrev pub invariant-loop : goal.invariant-loop
invariant-loop l = text_of l.line ≡ cut (text "subband |" ++ joined (λ ch. column_heads) l.counter)
