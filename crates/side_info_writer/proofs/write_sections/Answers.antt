-- `side_info_writer::write_sections` meets its contract: a field is refused, an index is, or the three sections stand one behind the other.
use mathlib.Core.Path.{refl}
use Rattle.std.proofs.lemmas.Result.{err_from_is_err_and}
use Rattle.active_slots.proofs.ActiveLaws.{listed_few}
use Rattle.side_info_writer.proofs.PartLaws.{fields_fit}
use Rattle.side_info_writer.proofs.WholeLaws.{scfsi_fit, indices_fit, stopped, answered, sections_are}
use Rattle.side_info_writer.proofs.write_sections.Goals as goal

pub returns-in_err-write_allocation-clause-asked : goal.returns-in_err-write_allocation-clause-asked
returns-in_err-write_allocation-clause-asked c =
    let p = err_from_is_err_and c.from_residual.result c.from_residual.ensures.1 in
    rw (p.1, p.2) (stopped c.args.layout c.args.info.now _ c.in_err-write_allocation.ensures.asked)

pub returns-then-not-indices_tabled-clause-asked : goal.returns-then-not-indices_tabled-clause-asked
returns-then-not-indices_tabled-clause-asked c =
    answered c.args.layout c.args.info.now c.in_ok-write_allocation.ensures.asked _ c.active_slots-active.ensures _ c.if-not-indices_tabled.ensures

pub write_scfsi-requires : goal.write_scfsi-requires
write_scfsi-requires c =
    let r = c.args.info.now in
    scfsi_fit _ (listed_few c.active_slots-active.result) r _ (rw c.in_ok-write_allocation.ensures.written (fields_fit c.args.layout r))

pub write_scalefactors-requires : goal.write_scalefactors-requires
write_scalefactors-requires c =
    let r = c.args.info.now in (
      c.if-not-indices_tabled.ensures.each refl,
      rw c.write_scfsi.ensures (indices_fit _ (listed_few c.active_slots-active.result) r _ (rw c.in_ok-write_allocation.ensures.written (fields_fit c.args.layout r))),
    )

pub returns : goal.returns
returns c =
    let l = c.args.layout in
    let r = c.args.info.now in
    let passed = c.in_ok-write_allocation.ensures.asked in
    record {
      asked = answered l r passed _ c.active_slots-active.ensures _ c.if-not-indices_tabled.ensures;
      written = rw (c.write_scalefactors.ensures, c.write_scfsi.ensures)
          (sections_are l r passed _ c.active_slots-active.ensures _ c.in_ok-write_allocation.ensures.written);
    }
