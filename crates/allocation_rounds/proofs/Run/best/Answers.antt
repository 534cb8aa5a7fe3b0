-- `allocation_rounds::Run::best` meets its contract: what is kept of the state finds its candidate.
use Rattle.allocation_rounds.proofs.Watching.{scan_best}
use Rattle.allocation_rounds.proofs.Run.best.Goals as goal

pub returns : goal.returns
returns c =
    scan_best c.args.tables.now c.args.self.now c.over-watch.result.waiting c.over-watch.result.present _ _ c.considered-end.ensures c.over-watch.ensures
    c.best.ensures
