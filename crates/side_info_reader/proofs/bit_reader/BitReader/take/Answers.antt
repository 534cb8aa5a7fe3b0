-- `BitReader::take` meets its contract: from what is held, with one more byte, or not at all.
use mathlib.Core.Path.{◌≡◌, refl, sym, ◌∙◌}
use borrow.Author.Tests.{ltb-true, ltb-false}
use Rattle.std.proofs.lemmas.Grind.{get_or_default_zero}
use Rattle.bit_string.specs.Bits.{unpacked}
use Rattle.side_info_reader.specs.BitReader.{bits_ahead}
use Rattle.side_info_reader.proofs.ReaderLaws.{Ready, held_enough, one_byte, no_byte, number_apart}
use Rattle.side_info_reader.proofs.bit_reader.BitReader.take.Goals as goal
use Rattle.side_info_reader.proofs.bit_reader.BitReader.take.Goals.{then-count-width+in-Some, else-count-width, After-above}

pub returns-in_default-clause-taken : goal.returns-in_default-clause-taken
returns-in_default-clause-taken c =
    rw (← c.self.view_is)
    (no_byte c.self.inside c.self.invariant c.args.width c.if-count-width.true (ltb-false _ _ (sym c.in_default.ensures.lookup.0)))

-- behind the join there is room for the number
ready : (c : After-above) → Ready c.if-count-width.self-inside.bytes.now c.args.width c.if-count-width.self-inside.at c.if-count-width.held c.if-count-width.count c.args.self.now.ahead
ready c =
    elim c.if-count-width.branch [
      | then-count-width+in-Some w ↦
          rw (w.self-inside-is, w.held-is, w.count-is, w.with_byte-held.ensures.whole, ← c.self.view_is)
          (one_byte c.self.inside c.self.invariant c.args.width _ w.if-count-width.true c.requires (ltb-true _ _ (sym w.in-Some.ensures.lookup.0)) (w.in-Some.ensures.lookup.1 ∙ get_or_default_zero _ _ _ (ltb-true _ _ (sym w.in-Some.ensures.lookup.0))) w.with_byte-held.ensures.byte)
      | else-count-width w ↦
          rw (w.self-inside-is, w.held-is, w.count-is, ← c.self.view_is) (held_enough c.self.inside c.self.invariant c.args.width w.if-count-width.false)
    ]

all_same : (c : After-above) → unpacked c.if-count-width.self-inside.bytes.now ≡ c.args.self.now.all
unfolding bits_ahead
all_same c =
    elim c.if-count-width.branch [
      | then-count-width+in-Some w ↦ rw (w.self-inside-is, ← c.self.view_is) refl
      | else-count-width w ↦ rw (w.self-inside-is, ← c.self.view_is) refl
    ]

pub returns : goal.returns
unfolding bits_ahead
returns c = record {
  taken = rw (c.above.ensures, c.below-self-inside.ensures) (number_apart _ _ _ _ _ _ (ready c) c.requires);
  all = all_same c;
}
