-- `bitalloc::BitAllocTable::range` meets its contract: four comparisons at once.
use Prim.Native.Nat.{◌+◌, ◌-◌, ◌*◌, ◌/◌, ◌^◌}
use Rattle.bitalloc.proofs.KeptLaws.{range_is, ends_small, sum_fits}
use Rattle.bitalloc.proofs.BitAllocTable.range.Goals as goal

pub overflow_sub-compared : goal.overflow_sub-compared
overflow_sub-compared c = rw c.ends.ensures (ends_small c.args.self)

pub overflow_mul-result : goal.overflow_mul-result
overflow_mul-result c = record { fits = sum_fits ((c.min-sb_or_32.result * 16843009 + (2155905152 - c.ends.result)) / 2 ^ 7) }

pub returns : goal.returns
returns c = range_is c.args.self c.args.sb _ _ c.min-sb_or_32.ensures c.ends.ensures
