-- `side_rows::row_start` meets its contract.
use mathlib.Core.Path.{ap, ◌∙◌}
use mathlib.Core.List.{List, ◌++◌}
use Prim.Native.Nat.{ℕ}
use Rattle.text_line.specs.Line.{text_of, cut}
use Rattle.text_line.proofs.LineLaws.{more}
use Rattle.side_rows.specs.Rows.{row_start}
use Rattle.side_rows.proofs.row_start.Goals as goal

pub returns : goal.returns
unfolding row_start
returns c =
    let t = text_of c.new.result in
    more t _ _ (more t _ _ (more t _ _ c.number_in.ensures c.number_in-2.ensures) c.number_in-3.ensures) c.number_in-4.ensures
    ∙ ap (λ (l : List ℕ). cut (l ++ row_start c.args.slot c.args.nb_steps c.args.code)) c.new.ensures
