-- `side_info_writer::field_place` meets its contract: each return has its law of the place.
use mathlib.Core.Path.{◌∙◌}
use Rattle.side_info_writer.proofs.PlaceLaws.{unequal, placed}
use Rattle.side_info_writer.proofs.field_place.Goals as goal

pub returns-then-steps_differ : goal.returns-then-steps_differ
returns-then-steps_differ c = unequal _ _ _ c.requires.0 c.if-steps_differ.true

pub returns : goal.returns
returns c = c.ok_or.ensures.value ∙ placed _ _ _ c.requires.0 c.if-steps_differ.false _ c.allocation_index.ensures.whole
