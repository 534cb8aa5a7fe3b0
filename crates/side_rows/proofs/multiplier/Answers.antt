-- `side_rows::multiplier` meets its contract.
use mathlib.Core.Path.{ap, ◌∙◌}
use mathlib.Core.List.{List, ◌++◌}
use Prim.Native.Nat.{ℕ}
use Rattle.plan_text.specs.Quoted.{text}
use Rattle.text_line.specs.Line.{text_of, cut}
use Rattle.text_line.proofs.LineLaws.{more}
use Rattle.side_rows.specs.Rows.{multiplier_column}
use Rattle.side_rows.proofs.RowLaws.{multiplier_is}
use Rattle.side_rows.proofs.multiplier.Goals as goal

pub returns : goal.returns
unfolding multiplier_column
returns c =
    let t = text_of c.args.line in
    more t _ _ (more t _ _ (more t _ _ c.text.ensures c.text-2.ensures) c.text-3.ensures) c.text-4.ensures
    ∙ ap (λ (m : List ℕ). cut (t ++ (text "  " ++ m)))
    (multiplier_is c.spelled-digits.result _ _ _ c.args.index c.spelled-digits.ensures c.printed_at.ensures c.split_at.ensures.front c.split_at.ensures.back)
