-- `encoder_samples::half_range` meets its contract: the shift is the power, and 32 bits hold it.
use Rattle.std.proofs.Common.{◌≡◌, ◌-◌, ◌*◌, ◌%◌, ◌^◌, arith}
use Rattle.encoder_samples.proofs.Codes.{half_range}
use Rattle.encoder_samples.proofs.half_range.Goals as goal

pub returns : goal.returns
returns c =
    let b = c.bits_per_sample-n.ensures in
    let n = c.bits_per_sample-n.result in
    let h = half_range _ _ b in
    let e : 1 * 2 ^ (n - 1) % 2 ^ 32 ≡ 2 ^ (n - 1) = omega (arith, h.most) in
    rw (c.saturating_sub.ensures, e) h
