-- `encoder_bit_demand::needed_steps` meets its contract. The loop's invariant: no place that was passed reaches the ratio.
use Prim.Native.Nat.{ℕ, ◌+◌}
use mathlib.Core.Path.{sym, ap, ◌∙◌}
use native.Mathlib.Omega.{arith}
use lib.Ieee.{le}
use Rattle.encoder_bit_demand.specs.Snr.{snr}
use Rattle.encoder_bit_demand.proofs.DemandLaws.{between_at, between_end, reached, top}
use Rattle.encoder_bit_demand.proofs.needed_steps.Goals as goal

pub returns-then-reaches : goal.returns-then-reaches
returns-then-reaches c =
    let l = c.loop-steps in
    let a = c.args in
    let at = between_at a.row.now l.steps-index c.loop-steps-test.true in
    at.1 ∙ reached a.row.now a.smr c.requires (l.steps-index + 1) (omega arith) at.0 l.invariant
    (ap (λ (n : ℕ). le a.smr (snr n)) (sym at.1) ∙ sym c.reaches.ensures ∙ c.if-reaches.true)

pub returns : goal.returns
returns c =
    let l = c.loop-steps in
    let a = c.args in
    let end = between_end a.row.now l.steps-index c.loop-steps-test.false in
    top a.row.now a.smr c.requires (λ k h m. l.invariant k (omega arith) m)
