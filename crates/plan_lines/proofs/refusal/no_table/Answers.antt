-- `plan_lines::refusal::no_table` meets its contract.
use Rattle.text_line.specs.Line.{text_of}
use Rattle.text_line.proofs.LineLaws.{more}
use Rattle.plan_lines.specs.Refusal.{no_table_text}
use Rattle.plan_lines.proofs.refusal.no_table.Goals as goal

pub returns : goal.returns
unfolding no_table_text
returns c = more (text_of c.args.line) _ _ c.text.ensures c.text-2.ensures
