use mathlib.Core.Path.{◌≡◌}
use Rattle.encoder_scalefactors.specs.Indices.{largest}
use Rattle.encoder_scalefactors.proofs.index_from.Given as goal

abbrev pub invariant-loop-sample : goal.invariant-loop-sample
invariant-loop-sample l = l.max_abs ≡ largest l.samples l.start l.sample-index
