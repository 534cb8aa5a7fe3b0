-- `side_info_reader::read_scalefactors` meets its contract. The loop's invariant: the slots to come, taken from the bits ahead, give the whole.
use Prim.Native.Nat.{◌+◌}
use mathlib.Core.Path.{refl, sym, ap, ◌∙◌}
use lib.ListN.{length, drop}
use Rattle.std.proofs.lemmas.Result.{err_from_is_err_and}
use Rattle.audio_data.specs.Scfsi.{three_in}
use Rattle.side_info_reading.specs.Taken.{each_taken}
use Rattle.side_info_reading.specs.Reading.{in_granules}
use Rattle.side_info_reading.proofs.LaidLaws.{length_laid}
use Rattle.side_info_reading.proofs.TakenLaws.{each_end}
use Rattle.side_info_reader.proofs.AnswerLaws.{no_indices}
use Rattle.side_info_reader.proofs.SectionLaws.{entry_got, entry_refused}
use Rattle.side_info_reader.proofs.read_scalefactors.Invariants.{three_of}
use Rattle.side_info_reader.proofs.read_scalefactors.Goals as goal

pub loop-slot-init : goal.loop-slot-init
loop-slot-init c = (
  refl,
  ap (λ cells. each_taken (three_of c.args.scfsi.now) in_granules c.as_slice-slot-items.result.now cells c.args.reader.now.ahead) no_indices,
  refl,
)

pub returns-in_err-indices-clause-taken : goal.returns-in_err-indices-clause-taken
returns-in_err-indices-clause-taken c =
    let l = c.loop-slot in
    let p = err_from_is_err_and c.from_residual.result c.from_residual.ensures.1 in
    rw (p.1, p.2, ← c.as_slice-slot-items.ensures)
    (entry_refused (three_of c.args.scfsi.now) in_granules c.as_slice-slot-items.result.now l.slot-index 0 _ c.loop-slot-test.true c.from-slot.ensures
    l.scalefactor l.reader.ahead _ l.invariant.1 _ (sym c.in_err-indices.ensures.taken))

pub loop-slot-preserved : goal.loop-slot-preserved
loop-slot-preserved c =
    let l = c.loop-slot in
    let three = three_of c.args.scfsi.now in
    let slots = c.as_slice-slot-items.result.now in
    let indices = three_in c.in_ok-indices.indices in (
      ap length c.put_three.ensures ∙ length_laid (in_granules c.from-slot.result indices) l.scalefactor ∙ l.invariant.0,
      ap (λ cells. each_taken three in_granules (drop (l.slot-index + 1) slots) cells c.read_three.new.reader.ahead) c.put_three.ensures
          ∙ entry_got three in_granules slots l.slot-index 0 _ c.loop-slot-test.true c.from-slot.ensures l.scalefactor l.reader.ahead _ l.invariant.1 indices _
          (sym c.in_ok-indices.ensures.taken),
      c.in_ok-indices.ensures.all ∙ l.invariant.2,
    )

pub returns-clause-taken : goal.returns-clause-taken
returns-clause-taken c =
    let l = c.loop-slot in
    rw (← c.as_slice-slot-items.ensures)
    (sym (each_end (three_of c.args.scfsi.now) in_granules c.as_slice-slot-items.result.now l.slot-index l.scalefactor l.reader.ahead c.loop-slot-test.false)
    ∙ l.invariant.1)
