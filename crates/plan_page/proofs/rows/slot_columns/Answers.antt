-- `plan_page::rows::slot_columns` meets its contract.
use mathlib.Core.Path.{ap, ◌∙◌}
use mathlib.Core.List.{◌++◌}
use lib.Ieee.{Float}
use Rattle.plan_text.specs.Quoted.{text}
use Rattle.text_line.specs.Line.{text_of, cut, aligned}
use Rattle.text_line.specs.Number.{number_text}
use Rattle.text_line.specs.Decibels.{decibels_text}
use Rattle.text_line.proofs.LineLaws.{more}
use Rattle.plan_page.specs.Rows.{slot_columns}
use Rattle.plan_page.proofs.rows.slot_columns.Goals as goal

pub returns : goal.returns
unfolding slot_columns
returns c =
    let smr = c.args.smr in
    let steps = c.args.nb_steps in
    let t = text_of c.args.line in
    more t _ _ (more t _ _ (more t _ _ c.decibels_in.ensures c.number_in.ensures) c.decibels_in-2.ensures) c.text.ensures
    ∙ ap (λ (y : Float). cut (t ++ (aligned 10 (decibels_text smr) ++ aligned 7 (number_text steps) ++ aligned 10 (decibels_text y) ++ text " |"))) c.slot_mnr-left.ensures
