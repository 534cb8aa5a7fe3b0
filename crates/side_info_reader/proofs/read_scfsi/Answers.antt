-- `side_info_reader::read_scfsi` meets its contract. The loop's invariant: the slots to come, taken from the bits ahead, give the whole.
use native.Mathlib.Omega.{arith}
use mathlib.Core.Path.{refl, sym, ap, ◌∙◌}
use lib.ListN.{get_or, length-set}
use Rattle.std.proofs.lemmas.Result.{err_from_is_err_and}
use Rattle.side_info_reading.specs.Taken.{each_taken}
use Rattle.side_info_reading.specs.Reading.{scfsi_taken, in_slot}
use Rattle.side_info_reading.proofs.TakenLaws.{each_end}
use Rattle.side_info_reader.proofs.AnswerLaws.{no_scfsi}
use Rattle.side_info_reader.proofs.SectionLaws.{entry_got, entry_refused, scfsi_got, scfsi_refused, code_small}
use Rattle.side_info_reader.proofs.read_scfsi.Goals as goal

pub loop-slot-init : goal.loop-slot-init
loop-slot-init c = (refl, ap (λ cells. each_taken scfsi_taken in_slot c.as_slice-slot-items.result.now cells c.args.reader.now.ahead) no_scfsi, refl)

pub returns-in_err-code-clause-taken : goal.returns-in_err-code-clause-taken
returns-in_err-code-clause-taken c =
    let l = c.loop-slot in
    let slots = c.as_slice-slot-items.result.now in
    let slot = get_or slots l.slot-index 0 in
    let p = err_from_is_err_and c.from_residual.result c.from_residual.ensures.1 in
    rw (p.1, p.2, ← c.as_slice-slot-items.ensures)
    (entry_refused scfsi_taken in_slot slots l.slot-index 0 slot c.loop-slot-test.true refl l.scfsi l.reader.ahead _ l.invariant.1 _
    (scfsi_refused slot _ _ (sym c.in_err-code.ensures.taken)))

pub overflow_cast-code : goal.overflow_cast-code
overflow_cast-code c = record { fits = omega (arith, code_small _ _ _ (sym c.in_ok-code.ensures.taken)) }

pub loop-slot-preserved : goal.loop-slot-preserved
loop-slot-preserved c =
    let l = c.loop-slot in (
      length-set l.scfsi _ _ ∙ l.invariant.0,
      entry_got scfsi_taken in_slot c.as_slice-slot-items.result.now l.slot-index 0 _ c.loop-slot-test.true c.from.ensures l.scfsi l.reader.ahead _ l.invariant.1 _ _
          (scfsi_got c.from.result _ _ _ _ (sym c.in_ok-code.ensures.taken) c.of_code.ensures),
      c.in_ok-code.ensures.all ∙ l.invariant.2,
    )

pub returns-clause-taken : goal.returns-clause-taken
returns-clause-taken c =
    let l = c.loop-slot in
    rw (← c.as_slice-slot-items.ensures)
    (sym (each_end scfsi_taken in_slot c.as_slice-slot-items.result.now l.slot-index l.scfsi l.reader.ahead c.loop-slot-test.false) ∙ l.invariant.1)
