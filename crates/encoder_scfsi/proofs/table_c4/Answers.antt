-- `encoder_scfsi::table_c4` meets its contract: antt computes the rows as the code keeps them and finds the constant.
use mathlib.Core.Path.{refl}
use Rattle.encoder_scfsi.specs.Storage.{kept}
use Rattle.encoder_scfsi.proofs.table_c4.Goals as goal

pub returns : goal.returns
unfolding kept
returns c = refl
