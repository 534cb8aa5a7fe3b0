-- `plan_lines::refusal::off_ladder` meets its contract: antt computes the names of the ladder's rates.
use mathlib.Core.Path.{◌≡◌, ap, ◌∙◌}
use mathlib.Core.List.{◌++◌}
use Rattle.text_line.specs.Line.{text_of, cut}
use Rattle.text_line.specs.Number.{digits_of}
use Rattle.ladder.specs.Ladder.{ladder, lsf_ladder, ladder_of}
use Rattle.plan_lines.specs.Refusal.{off_ladder_text}
use Rattle.plan_lines.proofs.refusal.off_ladder.Goals as goal
use Rattle.plan_lines.proofs.refusal.off_ladder.Goals.{then-lsf, else-lsf}

pub returns : goal.returns
unfolding off_ladder_text ladder_of ladder lsf_ladder digits_of
returns c =
    let named : c.if-lsf.text.now ≡ off_ladder_text c.args.lsf = elim c.if-lsf.branch [
      | then-lsf w ↦ rw w.if-lsf.true (ap (λ b. b.now) w.text-is)
      | else-lsf w ↦ rw w.if-lsf.false (ap (λ b. b.now) w.text-is)
    ] in
    c.text.ensures ∙ ap (λ s. cut (text_of c.args.line ++ s)) named
