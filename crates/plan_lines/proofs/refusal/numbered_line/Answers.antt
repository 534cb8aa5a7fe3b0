-- `plan_lines::refusal::numbered_line` meets its contract.
use Rattle.text_line.specs.Line.{text_of}
use Rattle.text_line.proofs.LineLaws.{more, alone}
use Rattle.plan_lines.specs.Refusal.{refusal_line}
use Rattle.plan_lines.proofs.Lengths.{refusal_length}
use Rattle.plan_lines.proofs.refusal.numbered_line.Goals as goal

pub returns : goal.returns
unfolding refusal_line
returns c =
    let t = text_of c.new.result in
    alone _ c.new.ensures (more t _ _ (more t _ _ (more t _ _ c.text.ensures c.number.ensures) c.text-line.ensures) c.reason.ensures)
    (refusal_length c.args.header c.args.number c.args.cb c.args.fixed c.args.banc)
