-- `bit_fields::below` meets its contract: a number and the mask of its lowest bits.
use Prim.Native.Nat.{◌%◌, ◌<◌}
use native.Mathlib.Nat.{mod-lt}
use native.Mathlib.Omega.{arith}
use lib.Dec.{lit<}
use lib.Pow.{pow_pos}
use Rattle.bit_fields.proofs.FieldLaws.{one_shifted, masked}
use Rattle.bit_fields.proofs.below.Goals as goal

pub overflow_sub-result : goal.overflow_sub-result
overflow_sub-result c =
    let w = c.args.width % 32 in
    let few : w < 32 = mod-lt c.args.width (lit< tt) in
    omega (arith, one_shifted w few, pow_pos w)

pub returns : goal.returns
returns c = rw c.wrapping_shl.ensures (masked c.args.n (c.args.width % 32) (mod-lt c.args.width (lit< tt)))
