-- `side_rows::printed` meets its contract.
use mathlib.Core.Path.{refl}
use Rattle.tables.specs.Scalefactors.{printed}
use Rattle.side_rows.proofs.printed.Goals as goal

pub returns : goal.returns
unfolding printed
returns c = refl
