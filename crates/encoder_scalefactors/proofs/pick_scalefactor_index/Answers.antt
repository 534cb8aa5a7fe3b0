-- `encoder_scalefactors::pick_scalefactor_index` meets its contract: the multipliers that cover stand first.
use borrow.Author.Rules.{rules}
use lib.Ieee.{le}
use Rattle.std.proofs.lemmas.List.Sorted.{IsPartitionPoint-from_clause}
use Rattle.tables.specs.Scalefactors.{scalefactors}
use Rattle.encoder_scalefactors.proofs.IndexLaws.{partitioned, pick_found}
use Rattle.encoder_scalefactors.proofs.pick_scalefactor_index.Goals as goal

pub returns : goal.returns
returns c =
    let x = c.args.max_abs in
    let found = c.partition_point-covering.ensures in
    rw c.saturating_sub.ensures
    (pick_found x _ (rw c.multipliers.ensures at found.bound)
    (IsPartitionPoint-from_clause (le x) scalefactors _ (rw c.multipliers.ensures at found.partitioned) (partitioned x) (λ a r f k. search rules)))
