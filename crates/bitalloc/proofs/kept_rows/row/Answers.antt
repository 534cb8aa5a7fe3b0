-- `bitalloc::kept_rows::row` meets its contract: below 8 the row is kept, and from there on there is none.
use mathlib.Core.Path.{sym, ap}
use Rattle.bitalloc.specs.Storage.{sixteen}
use Rattle.bitalloc.proofs.KeptLaws.{none_kept, kept_at}
use Rattle.bitalloc.proofs.kept_rows.row.Goals as goal

pub returns-then-number-lt8 : goal.returns-then-number-lt8
returns-then-number-lt8 c = rw c.rows.ensures (kept_at _ _ c.if-number-lt8.true)

pub returns-else-number-lt8 : goal.returns-else-number-lt8
returns-else-number-lt8 c = ap sixteen (sym (none_kept _ c.if-number-lt8.false))
