use Prim.Native.Nat.{◌+◌}
use Rattle.encoder_bit_demand.proofs.DemandLaws.{Passed}
use Rattle.encoder_bit_demand.proofs.needed_steps.Given as goal

abbrev pub invariant-loop-steps : goal.invariant-loop-steps
invariant-loop-steps l = Passed l.row l.smr (l.steps-index + 1)
