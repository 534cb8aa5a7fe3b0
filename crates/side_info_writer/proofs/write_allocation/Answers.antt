-- `side_info_writer::write_allocation` meets its contract. The loop's invariant: the fields so far passed their questions, and what is written and
-- what the fields from `f` on send make the whole.
use Prim.Native.Nat.{ℕ, ◌≤◌, ◌<◌}
use native.Mathlib.Omega.{arith}
use mathlib.Core.Path.{ap, ◌∙◌}
use lib.ListN.{length}
use Rattle.std.proofs.lemmas.Result.{err_from_is_err_and}
use Rattle.layout.specs.Layout.{own, fields_of}
use Rattle.side_info.specs.SideInfo.{allocation_field_bits}
use Rattle.bit_string.specs.Bits.{bits_of}
use Rattle.side_info_writer.proofs.PartLaws.{fields_fit, part_fits, part_written, parts_written}
use Rattle.side_info_writer.proofs.PlaceLaws.{field_long, place_small, place_bits}
use Rattle.side_info_writer.proofs.AskedLaws.{one_passed, one_stopped, all_passed}
use Rattle.side_info_writer.proofs.write_allocation.Goals as goal

pub returns-in_err-place-clause-asked : goal.returns-in_err-place-clause-asked
returns-in_err-place-clause-asked c =
    let l = c.loop-f in
    let a = c.args in
    let here : l.f < length (fields_of a.layout) = rw c.fields-f-end.ensures.whole at c.loop-f-test.true in
    let p = err_from_is_err_and c.from_residual.result c.from_residual.ensures.1 in
    rw (p.1, p.2)
    (one_stopped a.layout a.info.now l.f _ here c.field-field.ensures.whole l.invariant.0 _ c.in_err-place.ensures)

pub put-requires : goal.put-requires
put-requires c =
    let l = c.loop-f in
    let a = c.args in
    let r = a.info.now in
    let x = c.field-field.result in
    let here : l.f < length (fields_of a.layout) = rw c.fields-f-end.ensures.whole at c.loop-f-test.true in
    let fits = part_fits (fields_of a.layout) (allocation_field_bits a.layout r) _ _ l.f l.invariant.1 (own 0 0) x here c.field-field.ensures.whole 188
    (rw c.requires (omega (arith, fields_fit a.layout r))) in (
      omega (arith, c.nbal.ensures.small),
      rw c.nbal.ensures.whole (place_small a.layout r x _ c.in_ok-place.ensures c.field-field.ensures.carried),
      omega (arith, fits, c.nbal.ensures.whole, field_long a.layout r x),
    )

pub loop-f-preserved : goal.loop-f-preserved
loop-f-preserved c =
    let l = c.loop-f in
    let a = c.args in
    let r = a.info.now in
    let x = c.field-field.result in
    let here : l.f < length (fields_of a.layout) = rw c.fields-f-end.ensures.whole at c.loop-f-test.true in
    let bits = ap (λ (w : ℕ). bits_of w c.in_ok-place.place) c.nbal.ensures.whole ∙ place_bits a.layout r x _ c.in_ok-place.ensures in (
      one_passed a.layout a.info.now l.f x here c.field-field.ensures.whole l.invariant.0 _ c.in_ok-place.ensures,
      rw (c.put.ensures, bits) (part_written (fields_of a.layout) (allocation_field_bits a.layout r) _ _ l.f l.invariant.1 (own 0 0) x here c.field-field.ensures.whole),
    )

pub returns : goal.returns
returns c =
    let l = c.loop-f in
    let a = c.args in
    let over : length (fields_of a.layout) ≤ l.f = rw c.fields-f-end.ensures.whole at c.loop-f-test.false in
    record {
      asked = all_passed a.layout a.info.now l.f over l.invariant.0;
      written = rw c.requires at (parts_written (fields_of a.layout) (allocation_field_bits a.layout a.info.now) _ _ l.f l.invariant.1 over);
    }
