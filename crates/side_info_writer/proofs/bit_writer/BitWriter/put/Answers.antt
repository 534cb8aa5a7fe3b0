-- `BitWriter::put` meets its contract: fewer than eight bits are held, and eight make a byte.
use Rattle.side_info_writer.proofs.WriterLaws.{kept, kept_bits, byte_small, byte_here, filled, filled_bits}
use Rattle.side_info_writer.proofs.bit_writer.BitWriter.put.Goals as goal

pub invariant_of-self : goal.invariant_of-self
invariant_of-self c =
    rw c.beside-held.ensures
    (kept c.self.inside c.self.invariant c.args.value c.args.width c.requires.0 c.requires.1 (rw c.self.view_is c.requires.2) c.if-count-lt8.true)

pub returns-then-count-lt8 : goal.returns-then-count-lt8
returns-then-count-lt8 c =
    rw (c.beside-held.ensures, ← c.self.view_is)
    (kept_bits c.self.inside c.self.invariant c.args.value c.args.width c.requires.0 c.requires.1 (rw c.self.view_is c.requires.2))

pub overflow_cast-self : goal.overflow_cast-self
overflow_cast-self c =
    record {
      fits = rw (c.above.ensures, c.beside-held.ensures)
          (byte_small c.self.inside c.self.invariant c.args.value c.args.width c.requires.0 c.requires.1 (rw c.self.view_is c.requires.2) c.if-count-lt8.false);
    }

pub bounds-self-inside-self-inside : goal.bounds-self-inside-self-inside
bounds-self-inside-self-inside c =
    byte_here c.self.inside c.self.invariant c.args.value c.args.width c.requires.0 c.requires.1 (rw c.self.view_is c.requires.2) c.if-count-lt8.false

pub invariant_of-self-2 : goal.invariant_of-self-2
invariant_of-self-2 c =
    rw (c.above.ensures, c.below-self-inside.ensures, c.beside-held.ensures)
    (filled c.self.inside c.self.invariant c.args.value c.args.width c.requires.0 c.requires.1 (rw c.self.view_is c.requires.2) c.if-count-lt8.false)

pub returns : goal.returns
returns c =
    rw (c.above.ensures, c.below-self-inside.ensures, c.beside-held.ensures, ← c.self.view_is)
    (filled_bits c.self.inside c.self.invariant c.args.value c.args.width c.requires.0 c.requires.1 (rw c.self.view_is c.requires.2) c.if-count-lt8.false)
