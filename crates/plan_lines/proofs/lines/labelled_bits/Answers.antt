-- `plan_lines::lines::labelled_bits` meets its contract.
use Rattle.text_line.specs.Line.{text_of}
use Rattle.text_line.proofs.LineLaws.{more, alone}
use Rattle.plan_lines.specs.Lines.{bits_line}
use Rattle.plan_lines.proofs.Lengths.{bits_length}
use Rattle.plan_lines.proofs.lines.labelled_bits.Goals as goal

pub returns : goal.returns
unfolding bits_line
returns c =
    alone _ c.new.ensures
    (more (text_of c.new.result) _ _ (more (text_of c.new.result) _ _ c.text.ensures c.number_in.ensures) c.text-2.ensures)
    (bits_length c.args.label.now c.args.n c.requires)
