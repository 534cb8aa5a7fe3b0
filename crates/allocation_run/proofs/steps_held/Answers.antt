-- `allocation_run::steps_held` meets its contract. The loop's invariant: the steps so far.
use Rattle.std.proofs.Common.{◌/◌, ◌%◌, ◌<◌, ◌≡◌, length, length-set, arith}
use borrow.Author.Rules.{rules}
use Rattle.tables.proofs.Listed.{filled, listed}
use Rattle.allocation_run.specs.Steps.{steps_held, steps_of}
use Rattle.allocation_run.proofs.steps_held.Goals as goal

pub loop-slot-preserved : goal.loop-slot-preserved
loop-slot-preserved c =
    let l = c.loop-slot in
    let given = c.args in
    let h : l.slot < length l.steps = rw l.invariant.long (search rules) in
    record {
      long = simp length-set l.invariant.long;
      held =
          filled (λ k n. n ≡ steps_held given.layout given.places (k / 32) (k % 32)) l.steps l.slot _ 0 h l.invariant.held c.steps_at.ensures;
    }

pub returns : goal.returns
unfolding steps_of
returns c =
    let l = c.loop-slot in
    listed 64 _ 0 l.steps l.invariant.long (λ k h. l.invariant.held k (omega arith))
