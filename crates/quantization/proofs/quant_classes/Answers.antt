-- `quantization::quant_classes` meets its contract: antt rounds the printed C and D of each class and finds the constant.
use mathlib.Core.Path.{refl}
use lib.Ieee.{of_bits}
use Rattle.quantization.specs.Classes.{classes}
use Rattle.quantization.proofs.quant_classes.Goals as goal

pub returns : goal.returns
unfolding of_bits classes
returns c = refl
