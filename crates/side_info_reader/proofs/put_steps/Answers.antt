-- `side_info_reader::put_steps` meets its contract: one slot, or the two of both channels.
use Rattle.side_info_reader.proofs.SectionLaws.{steps_both, steps_own}
use Rattle.side_info_reader.proofs.put_steps.Goals as goal

pub returns-then-field : goal.returns-then-field
returns-then-field c = steps_both c.args.field c.if-field.true c.args.steps _

pub returns-else-field : goal.returns-else-field
returns-else-field c = steps_own c.args.field c.if-field.false c.args.steps _
