-- `allocation_rounds::Run::step` meets its contract: the candidate that was found is the round's.
use Rattle.std.proofs.Common.{◌≡◌, length}
use borrow.Author.Rules.{rules}
use Rattle.allocation_rounds.proofs.Answers.{step_over, step_on}
use Rattle.allocation_rounds.proofs.Run.step.Goals as goal
use Rattle.allocation_rounds.proofs.Run.step.Goals.{Start}

long : (c : Start) → length c.args.self.places ≡ 64
long c = search rules

pub returns-in_default : goal.returns-in_default
returns-in_default c =
    step_over c.args.tables.now c.args.self (long (goal.at.returns-in_default c).Start) c.best.result c.best.ensures c.in_default.is

pub returns : goal.returns
returns c =
    step_on c.args.tables.now c.args.self (long (goal.at.returns c).Start) c.best.result c.best.ensures c.in-Some.found c.in-Some.is
    _ _ _ c.step_of-step.ensures c.price-price.ensures _ c.taken-self.ensures
