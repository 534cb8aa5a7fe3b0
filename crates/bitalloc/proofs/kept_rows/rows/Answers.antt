-- `bitalloc::kept_rows::rows` meets its contract: antt fills up each kept row and finds the numbers of the code.
use mathlib.Core.Path.{refl}
use Rattle.bitalloc.specs.Kept.{kept}
use Rattle.bitalloc.proofs.kept_rows.rows.Goals as goal

pub returns : goal.returns
unfolding kept
returns c = refl
