-- `plan_lines::lines::free_line` meets its contract.
use mathlib.Core.Path.{ap, ◌∙◌}
use mathlib.Core.List.{List, ◌++◌}
use Prim.Native.Nat.{ℕ}
use Rattle.text_line.specs.Line.{text_of, cut}
use Rattle.text_line.proofs.LineLaws.{more, alone}
use Rattle.plan_lines.specs.Lines.{free_line}
use Rattle.plan_lines.proofs.Lengths.{free_length}
use Rattle.plan_lines.proofs.lines.free_line.Goals as goal

pub returns : goal.returns
unfolding free_line
returns c =
    let t = text_of c.new.result in
    let table = c.text-line.ensures ∙ ap (λ (n : List ℕ). cut (text_of c.text.result ++ n)) c.table_name.ensures in
    alone _ c.new.ensures (more t _ _ (more t _ _ c.text.ensures table) c.limits.ensures) (free_length c.args.b)
