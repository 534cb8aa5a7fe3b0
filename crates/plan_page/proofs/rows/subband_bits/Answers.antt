-- `plan_page::rows::subband_bits` meets its contract. The loop's invariant: the sum over the fields so far.
use Prim.Native.Nat.{◌<◌}
use native.Mathlib.Omega.{arith}
use lib.ListN.{length}
use Rattle.layout.specs.Layout.{fields_of}
use Rattle.layout.proofs.SumLaws.{added, summed}
use Rattle.plan_page.specs.Rows.{bits_in, subband_bits}
use Rattle.plan_page.proofs.rows.subband_bits.Goals as goal

pub loop-f-preserved : goal.loop-f-preserved
loop-f-preserved c =
    let l = c.loop-f in
    let given = c.args in
    let here : l.f < length (fields_of given.layout) = rw c.fields-f-end.ensures.whole at c.loop-f-test.true in (
      added (bits_in given.steps.now given.sb) (fields_of given.layout) l.f l.bits l.invariant.0 _ _ here c.field.ensures.whole c.bits_in-bits.ensures.whole,
      omega (arith, l.invariant.1, c.bits_in-bits.ensures.most),
    )

pub returns : goal.returns
unfolding subband_bits
returns c =
    let l = c.loop-f in
    let given = c.args in
    record {
      whole = summed (bits_in given.steps.now given.sb) (fields_of given.layout) l.f l.bits l.invariant.0
          (rw c.fields-f-end.ensures.whole at c.loop-f-test.false);
      most = omega (arith, l.invariant.1, l.auto.f-end, c.fields-f-end.ensures.few);
    }
