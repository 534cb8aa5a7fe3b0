-- `plan_page::rows::row_start` meets its contract.
use mathlib.Core.Path.{ap, ◌∙◌}
use mathlib.Core.List.{List, ◌++◌}
use Prim.Native.Nat.{ℕ}
use Rattle.text_line.specs.Line.{cut, text_of}
use Rattle.text_line.proofs.LineLaws.{more}
use Rattle.plan_page.specs.Rows.{row_start}
use Rattle.plan_page.proofs.rows.row_start.Goals as goal

pub returns : goal.returns
returns c =
    more (text_of c.new.result) _ _ c.number_in.ensures c.text.ensures ∙ ap (λ (l : List ℕ). cut (l ++ row_start c.args.sb)) c.new.ensures
