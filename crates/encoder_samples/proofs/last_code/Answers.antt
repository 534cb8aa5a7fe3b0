-- `encoder_samples::last_code` meets its contract: each return rewrites the definition with the test that led to it.
use Rattle.std.proofs.Common.{arith}
use Rattle.encoder_samples.specs.Samples.{last_code}
use Rattle.encoder_samples.proofs.last_code.Goals as goal

pub returns-then-class : goal.returns-then-class
unfolding last_code
returns-then-class c = simp c.if-class.true c.saturating_sub-step.ensures

pub returns-else-class : goal.returns-else-class
unfolding last_code
returns-else-class c =
    let h = c.half_range-half.ensures in
    simp (c.if-class.false, ← h.whole) (omega (arith, h.least))
