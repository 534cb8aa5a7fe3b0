-- `BitWriter::bytes` meets its contract: bits that are held stand at the head of the last byte.
use Rattle.side_info_writer.proofs.WriterLaws.{last_small, last_byte, no_last_byte}
use Rattle.side_info_writer.proofs.bit_writer.BitWriter.bytes.Goals as goal

pub overflow_cast-bytes : goal.overflow_cast-bytes
overflow_cast-bytes c = record { fits = rw c.beside.ensures (last_small c.self.inside c.self.invariant) }

pub returns-then-self-gt0 : goal.returns-then-self-gt0
returns-then-self-gt0 c = rw (c.beside.ensures, ← c.self.view_is) (last_byte c.self.inside c.self.invariant c.if-self-gt0.true)

pub returns-else-self-gt0 : goal.returns-else-self-gt0
returns-else-self-gt0 c = rw (← c.self.view_is) (no_last_byte c.self.inside c.self.invariant c.if-self-gt0.false)
