-- `plan_lines::lines::limits` meets its contract.
use Rattle.text_line.specs.Line.{text_of}
use Rattle.text_line.proofs.LineLaws.{more}
use Rattle.plan_lines.specs.Lines.{limits_text}
use Rattle.plan_lines.proofs.lines.limits.Goals as goal

pub returns : goal.returns
unfolding limits_text
returns c =
    let t = text_of c.args.line in
    more t _ _ (more t _ _ (more t _ _ c.text.ensures c.number.ensures) c.text-2.ensures) c.number-2.ensures
