-- `plan_lines::refusal::too_small` meets its contract.
use Rattle.text_line.specs.Line.{text_of}
use Rattle.text_line.proofs.LineLaws.{more}
use Rattle.plan_lines.specs.Refusal.{too_small_text}
use Rattle.plan_lines.proofs.refusal.too_small.Goals as goal

pub returns : goal.returns
unfolding too_small_text
returns c =
    let t = text_of c.args.line in
    let one = more t _ _ c.text.ensures c.number.ensures in
    let two = more t _ _ (more t _ _ one c.text-2.ensures) c.number-2.ensures in
    more t _ _ (more t _ _ (more t _ _ two c.text-3.ensures) c.number-3.ensures) c.text-4.ensures
