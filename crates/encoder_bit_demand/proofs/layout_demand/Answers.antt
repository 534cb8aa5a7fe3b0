-- `encoder_bit_demand::layout_demand` meets its contract. The loop's invariant: the sum over the fields so far.
use Prim.Native.Nat.{◌<◌}
use native.Mathlib.Omega.{arith}
use lib.ListN.{length}
use Rattle.layout.specs.Layout.{fields_of}
use Rattle.layout.proofs.SumLaws.{added, summed}
use Rattle.encoder_bit_demand.specs.Demand.{field_demand, layout_demand}
use borrow.Author.Rules.{rules}
use Rattle.encoder_bit_demand.proofs.layout_demand.Goals as goal

pub field_demand-bits-requires : goal.field_demand-bits-requires
field_demand-bits-requires c = let field = c.field-field.ensures in (field.carried, field.channel)

pub loop-f-preserved : goal.loop-f-preserved
loop-f-preserved c =
    let at = c.before.before.before in
    let l = at.loop-f in
    let many = at.fields-fields.ensures in
    let here : l.f < length (fields_of at.args.layout) = rw many.whole at c.loop-f-test.true in (
      added (field_demand at.args.layout.table at.args.smr_db.now) (fields_of at.args.layout) l.f l.bits l.invariant.0 _ _ here c.field-field.ensures.whole c.field_demand-bits.ensures.whole,
      search rules,
    )

pub returns : goal.returns
unfolding layout_demand
returns c =
    let l = c.loop-f in
    let many = c.fields-fields.ensures in
    record {
      whole = summed (field_demand c.args.layout.table c.args.smr_db.now) (fields_of c.args.layout) l.f l.bits l.invariant.0
          (rw many.whole at c.loop-f-test.false);
      most = omega (arith, many.few);
    }
