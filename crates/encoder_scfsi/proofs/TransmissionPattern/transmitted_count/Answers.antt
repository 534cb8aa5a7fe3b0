-- `encoder_scfsi::TransmissionPattern::transmitted_count` meets its contract: a flag counts as 0 or 1.
use Prim.Native.Nat.{◌≤◌}
use mathlib.Core.Path.{◌≡◌, refl}
use mathlib.Core.Bool.{Bool, true, false, cond}
use native.Mathlib.Omega.{arith}
use lib.Dec.{lit≤}
use mir.Val.{bool_byte}
use Rattle.encoder_scfsi.proofs.TransmissionPattern.transmitted_count.Goals as goal

flag : (b : Bool) → (bool_byte b ≡ cond b 1 0) × (bool_byte b ≤ 1)
flag true = (refl, lit≤ tt)
flag false = (refl, lit≤ tt)

pub overflow_add-result : goal.overflow_add-result
overflow_add-result c =
    let p = c.args.self in
    omega (arith, flag p.write0, flag p.write1)

pub overflow_add-result-2 : goal.overflow_add-result-2
overflow_add-result-2 c =
    let p = c.args.self in
    omega (arith, flag p.write0, flag p.write1, flag p.write2)

pub returns : goal.returns
returns c =
    let p = c.args.self in
    omega (arith, flag p.write0, flag p.write1, flag p.write2)
