-- `encoder_scalefactors::index_from` meets its contract. The loop's invariant: the largest magnitude so far.
use mathlib.Core.Path.{◌≡◌, refl, ap, ◌∙◌}
use Prim.Native.Nat.{◌<◌}
use lib.Ieee.{of_bits}
use Rattle.encoder_scalefactors.specs.Indices.{largest}
use Rattle.encoder_scalefactors.proofs.IndexLaws.{within_granule, granule_end, largest_more, index_is}
use Rattle.encoder_scalefactors.proofs.index_from.Goals as goal

pub loop-sample-init : goal.loop-sample-init
unfolding largest of_bits
loop-sample-init c = refl

pub loop-sample-preserved : goal.loop-sample-preserved
loop-sample-preserved c =
    let a = c.args in
    let k : c.loop-sample.sample-index < 12 = within_granule a.samples.now a.start _ c.loop-sample-test.true in
    largest_more a.samples.now a.start _ _ _ _ c.loop-sample.invariant k c.abs.ensures c.max-max_abs.ensures

pub returns : goal.returns
returns c =
    let a = c.args in
    let k : c.loop-sample.sample-index ≡ 12 = granule_end a.samples.now a.start _ c.requires c.loop-sample.auto.sample-index-end c.loop-sample-test.false in
    index_is a.samples.now a.start _ _ (c.loop-sample.invariant ∙ ap (largest a.samples.now a.start) k) c.pick_scalefactor_index.ensures
