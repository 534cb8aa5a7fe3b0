-- `tables::multipliers` meets its contract: antt rounds each printed number and finds the constant's bits.
use mathlib.Core.Path.{refl}
use lib.Ieee.{of_bits}
use Rattle.tables.specs.Scalefactors.{scalefactors}
use Rattle.tables.proofs.multipliers.Goals as goal

pub returns : goal.returns
unfolding of_bits scalefactors
returns c = refl
