-- `encoder_bit_budget::allocation_bits` meets its contract. The loop's invariant: the sum over the fields so far.
use Prim.Native.Nat.{◌<◌}
use lib.ListN.{length}
use Rattle.layout.specs.Layout.{fields_of}
use Rattle.layout.proofs.SumLaws.{added, summed}
use Rattle.bitalloc.specs.Tables.{nbal_of}
use Rattle.encoder_bit_budget.specs.Budget.{allocation_bits}
use borrow.Author.Rules.{rules}
use Rattle.encoder_bit_budget.proofs.allocation_bits.Goals as goal

pub loop-f-preserved : goal.loop-f-preserved
loop-f-preserved c =
    let at = c.before.before.before in
    let l = at.loop-f in
    let many = at.fields-fields.ensures in
    let here : l.f < length (fields_of at.args.layout) = rw many.whole at c.loop-f-test.true in (
      added (λ x. nbal_of at.args.layout.table x.subband) (fields_of at.args.layout) l.f l.bits l.invariant.0 _ _ here c.field-field.ensures.whole c.nbal-bits.ensures.whole,
      search rules,
    )

pub returns : goal.returns
unfolding allocation_bits
returns c =
    let l = c.loop-f in
    let many = c.fields-fields.ensures in
    summed (λ x. nbal_of c.args.layout.table x.subband) (fields_of c.args.layout) l.f l.bits l.invariant.0 (rw many.whole at c.loop-f-test.false)
