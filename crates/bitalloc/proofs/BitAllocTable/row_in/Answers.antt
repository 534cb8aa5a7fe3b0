-- `bitalloc::BitAllocTable::row_in` meets its contract: the number of the kept row.
use Prim.Native.Nat.{ℕ, ◌+◌, ◌*◌}
use mathlib.Core.Path.{ap, ◌∙◌}
use borrow.Author.Rules.{rules}
use Rattle.bitalloc.specs.Kept.{kept_row}
use Rattle.bitalloc.specs.Storage.{sixteen}
use Rattle.bitalloc.proofs.KeptLaws.{column_small}
use Rattle.bitalloc.proofs.BitAllocTable.row_in.Goals as goal

pub overflow_add-range : goal.overflow_add-range
overflow_add-range c = let one = column_small c.args.self in search rules

pub returns : goal.returns
returns c = c.row.ensures ∙ ap (λ (n : ℕ). sixteen (kept_row (2 * c.args.range + n))) c.column.ensures
