-- `layout::slots::row` meets its contract. The loop's invariant: the ratios so far, and NaNs behind them.
use mathlib.Core.Path.{refl}
use Rattle.std.proofs.Common.{◌<◌, ◌≡◌, length, get_or, length-set, arith, ◌∙◌}
use Rattle.std.proofs.lemmas.List.{get_or-set_other}
use lib.Ieee.{nan}
use borrow.Author.Rules.{rules}
use Rattle.tables.proofs.Listed.{blank, filled}
use Rattle.layout.specs.Slots.{slot_of}
use Rattle.layout.proofs.RowLaws.{filled_row}
use Rattle.layout.proofs.slots.row.Goals as goal

pub loop-sb-init : goal.loop-sb-init
unfolding lib.Ieee.of_bits
loop-sb-init c = record { long = refl; held = λ k h. absurd (omega (arith, h)); rest = λ k h. blank 32 nan k }

pub loop-sb-preserved : goal.loop-sb-preserved
loop-sb-preserved c =
    let l = c.loop-sb in
    let a = c.args in
    let h : l.sb < length l.ratios = rw l.invariant.long (search rules) in
    record {
      long = simp length-set l.invariant.long;
      held = filled (λ k r. r ≡ get_or a.by_slot.now (slot_of a.channel k) nan) l.ratios l.sb _ nan h l.invariant.held refl;
      rest = λ k q. get_or-set_other l.ratios l.sb k _ nan (λ e. omega (arith, q, e)) ∙ l.invariant.rest k (omega (arith, q));
    }

pub returns : goal.returns
returns c =
    let l = c.loop-sb in
    filled_row c.args.by_slot.now c.args.channel l.sb l.ratios l.invariant.long l.invariant.held l.invariant.rest
    (λ k h r. grind (arith, h, r, c.loop-sb-test.false, c.min-there.ensures, c.saturating_sub.ensures))
