-- `side_info_writer::indices_tabled` meets its contract. The loop's invariant: question 8 was answered yes of the slots so far.
use mathlib.Core.Path.{sym, ap, ◌∙◌}
use Rattle.side_info.specs.SideInfo.{tabled}
use Rattle.side_info_writer.proofs.AskedLaws.{one_tabled}
use Rattle.side_info_writer.proofs.indices_tabled.Goals as goal

pub loop-slot-preserved : goal.loop-slot-preserved
loop-slot-preserved c =
    one_tabled _ c.args.info.now _ _ c.loop-slot-test.true c.from.ensures c.loop-slot.invariant
    (ap tabled (sym c.granules.ensures) ∙ sym c.slot_tabled.ensures ∙ c.if-not-slot_tabled.false)
