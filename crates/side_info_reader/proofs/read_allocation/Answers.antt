-- `side_info_reader::read_allocation` meets its contract. The loop's invariant: the fields from `f` on, taken from the bits ahead, give the whole.
use Prim.Native.Nat.{◌+◌, ◌<◌, ◌≤◌}
use mathlib.Core.Path.{refl, sym, ap, ◌∙◌}
use lib.ListN.{length, drop}
use Rattle.std.proofs.lemmas.Result.{err_from_is_err_and}
use Rattle.layout.specs.Layout.{own, fields_of}
use Rattle.side_info_reading.specs.Taken.{each_taken}
use Rattle.side_info_reading.specs.Reading.{field_taken, in_slots}
use Rattle.side_info_reading.proofs.TakenLaws.{each_end}
use Rattle.side_info_reading.proofs.LaidLaws.{length_laid}
use Rattle.side_info_reader.proofs.AnswerLaws.{no_steps}
use Rattle.side_info_reader.proofs.SectionLaws.{entry_got, entry_refused, field_got, field_refused, place_small}
use Rattle.side_info_reader.proofs.read_allocation.Goals as goal

pub loop-f-init : goal.loop-f-init
loop-f-init c =
    (refl, ap (λ cells. each_taken (field_taken c.args.layout) in_slots (fields_of c.args.layout) cells c.args.reader.now.ahead) no_steps, refl)

pub returns-in_err-place-clause-taken : goal.returns-in_err-place-clause-taken
returns-in_err-place-clause-taken c =
    let l = c.loop-f in
    let a = c.args in
    let here : l.f < length (fields_of a.layout) = rw c.fields-f-end.ensures.whole at c.loop-f-test.true in
    let p = err_from_is_err_and c.from_residual.result c.from_residual.ensures.1 in
    rw (p.1, p.2)
    (entry_refused (field_taken a.layout) in_slots (fields_of a.layout) l.f (own 0 0) c.field-field.result here c.field-field.ensures.whole l.nb_steps l.reader.ahead _ l.invariant.1 _
    (field_refused a.layout c.field-field.result l.reader.ahead _ _ c.nbal.ensures.whole (sym c.in_err-place.ensures.taken)))

pub steps_at-requires : goal.steps_at-requires
steps_at-requires c = place_small _ _ _ _ c.nbal.ensures.small (sym c.in_ok-place.ensures.taken)

pub loop-f-preserved : goal.loop-f-preserved
loop-f-preserved c =
    let l = c.loop-f in
    let a = c.args in
    let bits = c.take.new.self.ahead in
    let here : l.f < length (fields_of a.layout) = rw c.fields-f-end.ensures.whole at c.loop-f-test.true in (
      ap length c.put_steps.ensures ∙ length_laid (in_slots c.field-field.result c.steps_at.result) l.nb_steps ∙ l.invariant.0,
      ap (λ cells. each_taken (field_taken a.layout) in_slots (drop (l.f + 1) (fields_of a.layout)) cells bits) c.put_steps.ensures
          ∙ entry_got (field_taken a.layout) in_slots (fields_of a.layout) l.f (own 0 0) c.field-field.result here c.field-field.ensures.whole l.nb_steps l.reader.ahead _ l.invariant.1
          c.steps_at.result _
          (field_got a.layout c.field-field.result l.reader.ahead _ _ _ _ c.nbal.ensures.whole (sym c.in_ok-place.ensures.taken) c.steps_at.ensures.whole),
      c.in_ok-place.ensures.all ∙ l.invariant.2,
    )

pub returns-clause-taken : goal.returns-clause-taken
returns-clause-taken c =
    let l = c.loop-f in
    let a = c.args in
    let over : length (fields_of a.layout) ≤ l.f = rw c.fields-f-end.ensures.whole at c.loop-f-test.false in
    sym (each_end (field_taken a.layout) in_slots (fields_of a.layout) l.f l.nb_steps l.reader.ahead over) ∙ l.invariant.1
