-- `side_info_reader::read_three` meets its contract: as many indices as the scfsi sends, or a refusal of one.
use mathlib.Core.Path.{refl}
use native.Mathlib.Omega.{arith}
use Rattle.audio_data.specs.declared.Scfsi.TheVariants.{ThreePerGranule, Share01Then2, ShareAll, Share0Then12}
use Rattle.std.proofs.lemmas.Result.{err_from_is_err_and}
use Rattle.side_info_reader.proofs.ThreeLaws.{first_refused, one_read, second_refused, two_read_01, two_read_12, third_refused, three_read}
use Rattle.side_info_reader.proofs.read_three.Goals as goal

pub returns-in_err-first-clause-taken : goal.returns-in_err-first-clause-taken
returns-in_err-first-clause-taken c =
    let p = err_from_is_err_and c.from_residual.result c.from_residual.ensures.1 in
    rw (p.1, p.2) (first_refused c.args.scfsi _ _ c.in_err-first.ensures.taken)

pub returns-in_err-second-in-ThreePerGranule-clause-taken : goal.returns-in_err-second-in-ThreePerGranule-clause-taken
returns-in_err-second-in-ThreePerGranule-clause-taken c =
    let r = c.from_residual-in_err-second-in-ThreePerGranule in
    let p = err_from_is_err_and r.result r.ensures.1 in
    rw (p.1, p.2, c.in-ThreePerGranule.is)
    (second_refused ThreePerGranule _ _ _ c.in_ok-first.ensures.taken (λ z. omega (arith, z)) _ c.in_err-second-in-ThreePerGranule.ensures.taken)

pub returns-in_err-third-in-ThreePerGranule-clause-taken : goal.returns-in_err-third-in-ThreePerGranule-clause-taken
returns-in_err-third-in-ThreePerGranule-clause-taken c =
    let r = c.from_residual-in_err-third-in-ThreePerGranule in
    let p = err_from_is_err_and r.result r.ensures.1 in
    rw (p.1, p.2, c.in-ThreePerGranule.is)
    (third_refused _ _ _ c.in_ok-first.ensures.taken _ _ c.in_ok-second-in-ThreePerGranule.ensures.taken _ c.in_err-third-in-ThreePerGranule.ensures.taken)

pub returns-in_err-second-in-Share01Then2-clause-taken : goal.returns-in_err-second-in-Share01Then2-clause-taken
returns-in_err-second-in-Share01Then2-clause-taken c =
    let r = c.from_residual-in_err-second-in-Share01Then2 in
    let p = err_from_is_err_and r.result r.ensures.1 in
    rw (p.1, p.2, c.in-Share01Then2.is)
    (second_refused Share01Then2 _ _ _ c.in_ok-first.ensures.taken (λ z. omega (arith, z)) _ c.in_err-second-in-Share01Then2.ensures.taken)

pub returns-in_err-second-in-Share0Then12-clause-taken : goal.returns-in_err-second-in-Share0Then12-clause-taken
returns-in_err-second-in-Share0Then12-clause-taken c =
    let r = c.from_residual-in_err-second-in-Share0Then12 in
    let p = err_from_is_err_and r.result r.ensures.1 in
    rw (p.1, p.2, c.in-Share0Then12.is)
    (second_refused Share0Then12 _ _ _ c.in_ok-first.ensures.taken (λ z. omega (arith, z)) _ c.in_err-second-in-Share0Then12.ensures.taken)

pub returns-in_ok-third-in-ThreePerGranule-clause-taken : goal.returns-in_ok-third-in-ThreePerGranule-clause-taken
returns-in_ok-third-in-ThreePerGranule-clause-taken c =
    rw c.in-ThreePerGranule.is
    (three_read _ _ _ c.in_ok-first.ensures.taken _ _ c.in_ok-second-in-ThreePerGranule.ensures.taken _ _ c.in_ok-third-in-ThreePerGranule.ensures.taken)

pub returns-in_ok-second-in-Share01Then2-clause-taken : goal.returns-in_ok-second-in-Share01Then2-clause-taken
returns-in_ok-second-in-Share01Then2-clause-taken c =
    rw c.in-Share01Then2.is (two_read_01 _ _ _ c.in_ok-first.ensures.taken _ _ c.in_ok-second-in-Share01Then2.ensures.taken)

pub returns-in-ShareAll-clause-taken : goal.returns-in-ShareAll-clause-taken
returns-in-ShareAll-clause-taken c = rw c.in-ShareAll.is (one_read ShareAll _ _ _ c.in_ok-first.ensures.taken refl)

pub returns-in_ok-second-in-Share0Then12-clause-taken : goal.returns-in_ok-second-in-Share0Then12-clause-taken
returns-in_ok-second-in-Share0Then12-clause-taken c =
    rw c.in-Share0Then12.is (two_read_12 _ _ _ c.in_ok-first.ensures.taken _ _ c.in_ok-second-in-Share0Then12.ensures.taken)
