-- `side_info_reader::read_under` meets its contract: one section after the other, or a refusal in one of them.
use mathlib.Core.Path.{◌∙◌}
use Rattle.std.proofs.lemmas.Result.{err_from_is_err_and}
use Rattle.side_info_reader.proofs.AnswerLaws.{fields_refused, scfsi_refused, indices_refused, all_read, answer_refused, few_used, answer_read}
use Rattle.side_info_reader.proofs.read_under.Goals as goal

pub returns-in_err-read_allocation : goal.returns-in_err-read_allocation
returns-in_err-read_allocation c =
    let a = c.args in
    let p = err_from_is_err_and c.from_residual.result c.from_residual.ensures.1 in
    rw (p.1, p.2)
    (answer_refused a.layout a.bytes.now _ (fields_refused a.layout _ _ (rw c.new-reader.ensures.ahead at c.in_err-read_allocation.ensures.taken)))

pub returns-in_err-read_scfsi : goal.returns-in_err-read_scfsi
returns-in_err-read_scfsi c =
    let a = c.args in
    let r = c.from_residual-in_err-read_scfsi in
    let p = err_from_is_err_and r.result r.ensures.1 in
    rw (p.1, p.2)
    (answer_refused a.layout a.bytes.now _
    (scfsi_refused a.layout _ _ _ (rw c.new-reader.ensures.ahead at c.in_ok-read_allocation.ensures.taken) _ c.active_slots-active.ensures _ c.in_err-read_scfsi.ensures.taken))

pub returns-in_err-read_scalefactors : goal.returns-in_err-read_scalefactors
returns-in_err-read_scalefactors c =
    let a = c.args in
    let r = c.from_residual-in_err-read_scalefactors in
    let p = err_from_is_err_and r.result r.ensures.1 in
    rw (p.1, p.2)
    (answer_refused a.layout a.bytes.now _
    (indices_refused a.layout _ _ _ (rw c.new-reader.ensures.ahead at c.in_ok-read_allocation.ensures.taken) _ c.active_slots-active.ensures
    _ _ c.in_ok-read_scfsi.ensures.taken _ c.in_err-read_scalefactors.ensures.taken))

pub bits_used-requires : goal.bits_used-requires
bits_used-requires c =
    let a = c.args in
    let all = c.in_ok-read_scalefactors.ensures.all ∙ c.in_ok-read_scfsi.ensures.all ∙ c.in_ok-read_allocation.ensures.all ∙ c.new-reader.ensures.all in
    rw all
    (few_used a.layout a.bytes.now _ _
    (all_read a.layout _ _ _ (rw c.new-reader.ensures.ahead at c.in_ok-read_allocation.ensures.taken) _ c.active_slots-active.ensures
    _ _ c.in_ok-read_scfsi.ensures.taken _ _ c.in_ok-read_scalefactors.ensures.taken))

pub returns : goal.returns
returns c =
    let a = c.args in
    let all = c.in_ok-read_scalefactors.ensures.all ∙ c.in_ok-read_scfsi.ensures.all ∙ c.in_ok-read_allocation.ensures.all ∙ c.new-reader.ensures.all in
    rw (c.bits_used.ensures, all)
    (answer_read a.layout a.bytes.now _ _
    (all_read a.layout _ _ _ (rw c.new-reader.ensures.ahead at c.in_ok-read_allocation.ensures.taken) _ c.active_slots-active.ensures
    _ _ c.in_ok-read_scfsi.ensures.taken _ _ c.in_ok-read_scalefactors.ensures.taken))
