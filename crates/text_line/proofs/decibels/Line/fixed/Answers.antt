-- `text_line::decibels::Line::fixed` meets its contract.
use Rattle.text_line.proofs.LineLaws.{more}
use mathlib.Core.List.{◌++◌}
use Prim.Native.Nat.{◌/◌, ◌%◌}
use Rattle.plan_text.specs.Quoted.{text}
use Rattle.text_line.specs.Line.{text_of}
use Rattle.text_line.specs.Number.{number_text}
use Rattle.text_line.specs.Decibels.{two_digits}
use Rattle.text_line.proofs.decibels.Line.fixed.Goals as goal

pub returns : goal.returns
returns c =
    let t = text_of c.args.self in
    let h = c.args.hundredths in
    let a = number_text (h / 100) in
    let d = two_digits (h % 100) in
    more t (a ++ text ".") d (more t a (text ".") c.number.ensures c.text.ensures) c.text-2.ensures
