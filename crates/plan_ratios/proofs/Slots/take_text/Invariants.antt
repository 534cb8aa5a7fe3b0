use Rattle.std.proofs.Common.{length, ◌-◌}
use Rattle.plan_ratios.proofs.PartLaws.{Met}
use Rattle.plan_ratios.proofs.Slots.take_text.Given as goal

abbrev pub invariant-loop-at : goal.invariant-loop-at
invariant-loop-at l = Met l.text l.initial.self l.line l.start l.at l.self

abbrev pub decreases-loop-at : goal.decreases-loop-at
decreases-loop-at l = length l.text - l.at
