-- `allocation_rounds::Run::finish` meets its contract. The loop's invariant: the end from here is the end from the start, and what is kept is true
-- of the state. The measure is the room.
use Rattle.std.proofs.Common.{◌≡◌, ℕ, length, ap, ◌∙◌}
use borrow.Author.Rules.{rules}
use Rattle.allocation_rounds.specs.Rounds.{taken_by}
use Rattle.allocation_rounds.specs.Answers.{BestIs}
use Rattle.allocation_rounds.proofs.Answers.{loop_over, loop_falls, loop_same}
use Rattle.allocation_rounds.proofs.Watching.{scan_best, taken_watched}
use Rattle.allocation_rounds.proofs.Run.finish.Goals as goal
use Rattle.allocation_rounds.proofs.Run.finish.Goals.{Start, After-best}

long : (c : Start) → length c.args.self.places ≡ 64
long c = search rules

-- what was found is the state's candidate
found : (c : After-best) → let t = c.args.tables.now in BestIs c.loop-found.run.places c.loop-found.run.closed t.fields t.tops t.mnrs c.best.result
found c =
    scan_best c.args.tables.now c.loop-found.run c.loop-found.watch.waiting c.loop-found.watch.present _ _ c.considered-end.ensures
    c.loop-found.invariant.watched c.best.ensures

pub step_of-step-requires : goal.step_of-step-requires
step_of-step-requires c = (found (goal.at.step_of-step-requires c).After-best).inside c.in-Some.found c.in-Some.is

pub loop-found-smaller : goal.loop-found-smaller
loop-found-smaller c =
    let l = c.loop-found in
    loop_falls c.args.tables.now l.run l.invariant.long c.best.result (found (goal.at.loop-found-smaller c).After-best) c.in-Some.found c.in-Some.is
    _ _ _ c.step_of-step.ensures c.price-price.ensures _ c.taken-run.ensures

pub loop-found-preserved : goal.loop-found-preserved
loop-found-preserved c =
    let l = c.loop-found in
    let same =
    loop_same c.args.tables.now l.run l.invariant.long c.best.result (found (goal.at.loop-found-preserved c).After-best) c.in-Some.found c.in-Some.is
    _ _ _ c.step_of-step.ensures c.price-price.ensures _ c.taken-run.ensures c.args.self l.invariant.same in
    record {
      long = same.0;
      same = same.1;
      watched =
          taken_watched _ l.run _ _ _ _ _ _ _ _ (c.taken-run.ensures ∙ ap (λ (f : ℕ). taken_by f c.price-price.result l.run) c.step_of-step.ensures.0) l.invariant.watched
          c.update.ensures;
    }

pub returns : goal.returns
returns c =
    let l = c.loop-found in
    loop_over c.args.tables.now l.run l.invariant.long c.best.result (found (goal.at.returns c).After-best) c.args.self
    (long (goal.at.returns c).Start) l.invariant.same c.in_default.is
