-- `text_line::decibels::Line::decibels` meets its contract.
use mathlib.Core.Path.{◌≡◌, ap, sym, subst, ◌∙◌}
use mathlib.Core.Bool.{true, false}
use mathlib.Core.List.{List, ◌++◌}
use Prim.Native.Nat.{ℕ}
use lib.Ieee.{Float, lt, eq}
use Rattle.plan_text.specs.Quoted.{text}
use Rattle.text_line.specs.Line.{text_of, cut}
use Rattle.text_line.specs.Decibels.{minus_text, hundredths_of, finite_text}
use Rattle.text_line.proofs.LineLaws.{more}
use Rattle.text_line.proofs.DecibelsLaws.{nought, infinity, is_finite, is_infinite, is_nan}
use Rattle.text_line.proofs.decibels.Line.decibels.Goals as goal

pub returns-then-magnitude : goal.returns-then-magnitude
returns-then-magnitude c =
    c.finite.ensures
    ∙ ap (λ (t : List ℕ). cut (text_of c.args.self ++ t))
    (ap (finite_text (lt c.args.x nought)) (c.hundredths.ensures ∙ ap hundredths_of c.abs-magnitude.ensures)
    ∙ sym (is_finite c.args.x (subst (λ (y : Float). lt y infinity ≡ true) c.abs-magnitude.ensures c.if-magnitude.true)))

pub returns-then-magnitude-2 : goal.returns-then-magnitude-2
returns-then-magnitude-2 c =
    let t = text_of c.args.self in
    let x = c.args.x in
    more t (minus_text (lt x nought)) (text "inf") c.minus.ensures c.text.ensures
    ∙ ap (λ (u : List ℕ). cut (t ++ u))
    (sym
    (is_infinite x
    (subst (λ (y : Float). lt y infinity ≡ false) c.abs-magnitude.ensures c.if-magnitude.false)
    (subst (λ (y : Float). eq y infinity ≡ true) c.abs-magnitude.ensures c.if-magnitude-2.true)))

pub returns-else-magnitude-2 : goal.returns-else-magnitude-2
returns-else-magnitude-2 c =
    c.text-else-magnitude-2.ensures
    ∙ ap (λ (u : List ℕ). cut (text_of c.args.self ++ u))
    (sym
    (is_nan c.args.x
    (subst (λ (y : Float). lt y infinity ≡ false) c.abs-magnitude.ensures c.if-magnitude.false)
    (subst (λ (y : Float). eq y infinity ≡ false) c.abs-magnitude.ensures c.if-magnitude-2.false)))
