-- `canonical_writer::chosen` meets its contract. The loop's invariant: the slots so far have their scfsi.
use mathlib.Core.Path.{refl, ap, ◌∙◌}
use native.Mathlib.Omega.{arith}
use Rattle.canonical_form.specs.Fewest.{fewest_scfsi}
use Rattle.canonical_writer.proofs.ChosenLaws.{one_chosen, all_chosen}
use Rattle.canonical_writer.proofs.chosen.Goals as goal

pub loop-slot-init : goal.loop-slot-init
loop-slot-init c = record { long = refl; each = λ k h. absurd (omega arith) }

pub loop-slot-preserved : goal.loop-slot-preserved
loop-slot-preserved c =
    let l = c.loop-slot in
    one_chosen _ _ l.slot _ c.loop-slot-test.true (c.fewest_scfsi.ensures.whole ∙ ap fewest_scfsi c.granules.ensures) l.invariant

pub returns : goal.returns
returns c = all_chosen _ _ _ c.loop-slot-test.false c.loop-slot.invariant
