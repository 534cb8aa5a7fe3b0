-- `encoder_samples::clamp` meets its contract: below zero and from zero up, the magnitude's whole number and the half give the code.
use Rattle.std.proofs.Common.{sym}
use Rattle.encoder_samples.proofs.Rounding.{below_middle, above_middle}
use Rattle.encoder_samples.proofs.clamp.Goals.{then-value, else-value}
use Rattle.encoder_samples.proofs.clamp.Goals as goal

pub returns : goal.returns
returns c =
    elim c.if-value.branch [
      | then-value w ↦ rw (c.min.ensures, c.from.ensures, w.code-is, w.saturating_sub-code.ensures, c.from-middle.ensures)
          (sym (below_middle c.args.last c.args.half _ _ c.ranges.half.fits w.if-value.true w.nearest_whole.ensures.whole))
      | else-value w ↦ rw (c.min.ensures, c.from.ensures, w.code-is, c.from-middle.ensures)
          (sym (above_middle c.args.last c.args.half _ _ c.ranges.last.fits w.if-value.false w.nearest_whole-else-value.ensures.whole))
    ]
