-- `plan_lines::lines::demand_line` meets its contract.
use mathlib.Core.Path.{ap, ◌∙◌}
use mathlib.Core.List.{List, ◌++◌}
use Prim.Native.Nat.{ℕ}
use Rattle.text_line.specs.Line.{cut}
use Rattle.text_line.proofs.LineLaws.{cut_whole}
use Rattle.plan_lines.specs.Lines.{balance_text, demand_line}
use Rattle.plan_lines.proofs.Lengths.{demand_length}
use Rattle.plan_lines.proofs.lines.demand_line.Goals as goal

pub returns : goal.returns
unfolding demand_line
returns c =
    c.balance.ensures
    ∙ ap (λ (u : List ℕ). cut (u ++ balance_text c.args.demand c.args.offered)) c.bits_line.ensures
    ∙ cut_whole _ (demand_length c.args.demand c.args.offered)
