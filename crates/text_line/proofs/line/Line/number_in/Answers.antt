-- `text_line::line::Line::number_in` meets its contract.
use mathlib.Core.Path.{ap, ◌∙◌}
use mathlib.Core.List.{List, ◌++◌}
use Prim.Native.Nat.{ℕ}
use native.Mathlib.Omega.{arith}
use Rattle.text_line.specs.Line.{text_of, cut, aligned}
use Rattle.text_line.proofs.LineLaws.{alone}
use Rattle.text_line.proofs.NumberLaws.{few_digits}
use Rattle.text_line.proofs.line.Line.number_in.Goals as goal

pub returns : goal.returns
returns c =
    c.aligned.ensures
    ∙ ap (λ (t : List ℕ). cut (text_of c.args.self ++ aligned c.args.width t)) (alone _ c.new.ensures c.number.ensures (let h = few_digits 20 c.args.n in omega arith))
