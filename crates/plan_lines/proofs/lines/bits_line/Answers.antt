-- `plan_lines::lines::bits_line` meets its contract.
use Rattle.std.proofs.Common.{ap, ◌∙◌, ℕ, List}
use Rattle.plan_lines.specs.Lines.{bits_line}
use Rattle.plan_lines.proofs.Lengths.{label_length}
use Rattle.plan_lines.proofs.lines.bits_line.Goals as goal

pub labelled_bits-requires : goal.labelled_bits-requires
labelled_bits-requires c = rw c.bytes.ensures (label_length c.args.label)

pub returns : goal.returns
returns c = c.labelled_bits.ensures ∙ ap (λ (l : List ℕ). bits_line l c.args.n) c.bytes.ensures
