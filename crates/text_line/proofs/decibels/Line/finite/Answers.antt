use Rattle.std.proofs.Common.{◌≡◌, ap, ◌∙◌, ◌++◌, ◌&&◌, Bool, ltb}
use borrow.Author.Tests.{lt-ltb}
use Rattle.text_line.specs.Line.{text_of, cut}
use Rattle.text_line.specs.Decibels.{minus_text}
use Rattle.text_line.proofs.LineLaws.{more}
use Rattle.text_line.proofs.decibels.Line.finite.Goals as goal
use Rattle.text_line.proofs.decibels.Line.finite.Goals.{then-below, else-below}

pub returns-after-below : goal.returns-after-below
returns-after-below c =
    let before = text_of c.args.self in
    let sign : c.if-below.minus ≡ c.args.below && ltb 0 c.args.hundredths =
    elim c.if-below.branch [ then-below w ↦ rw w.if-below.true w.minus-is | else-below w ↦ rw w.if-below.false (w.minus-is ∙ w.if-below.false) ] in
    rw (lt-ltb _ _ c.if-hundredths-lt-LIMIT.true)
    (more before _ _ (c.minus.ensures ∙ ap (λ (b : Bool). cut (before ++ minus_text b)) sign) c.fixed.ensures)
