-- `BitReader::bits_used` meets its contract: the bits of the bytes taken, without those still held.
use native.Mathlib.Omega.{arith}
use Rattle.side_info_reader.proofs.ReaderLaws.{used}
use Rattle.side_info_reader.proofs.bit_reader.BitReader.bits_used.Goals as goal

pub overflow_cast-result : goal.overflow_cast-result
overflow_cast-result c =
    let few = rw (← c.self.view_is) at c.requires in
    record { fits = omega (arith, few, used c.self.inside c.self.invariant, c.self.invariant.few) }

pub overflow_mul-result : goal.overflow_mul-result
overflow_mul-result c =
    let few = rw (← c.self.view_is) at c.requires in
    record { fits = omega (arith, few, used c.self.inside c.self.invariant, c.self.invariant.few) }

pub returns : goal.returns
returns c = rw (← c.self.view_is) (omega (arith, used c.self.inside c.self.invariant))
