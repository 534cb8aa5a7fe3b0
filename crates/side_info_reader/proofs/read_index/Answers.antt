-- `side_info_reader::read_index` meets its contract: the number's own law at each return.
use mathlib.Core.Path.{sym}
use native.Mathlib.Omega.{arith}
use Rattle.std.proofs.lemmas.Result.{err_from_is_err_and}
use Rattle.side_info_reading.proofs.TakenLaws.{number_taken_lem}
use Rattle.side_info_reader.proofs.ThreeLaws.{index_refused, index_63, index_got}
use Rattle.side_info_reader.proofs.read_index.Goals as goal

pub returns-in_err-index-clause-taken : goal.returns-in_err-index-clause-taken
returns-in_err-index-clause-taken c =
    let p = err_from_is_err_and c.from_residual.result c.from_residual.ensures.1 in
    rw (p.1, p.2) (index_refused _ _ c.in_err-index.ensures.taken)

pub returns-then-index-eq63-clause-taken : goal.returns-then-index-eq63-clause-taken
returns-then-index-eq63-clause-taken c = index_63 _ _ _ c.in_ok-index.ensures.taken c.if-index-eq63.true

pub overflow_cast-result : goal.overflow_cast-result
overflow_cast-result c = record { fits = omega (arith, (number_taken_lem 6 _ _ _ (sym c.in_ok-index.ensures.taken)).small) }

pub returns-clause-taken : goal.returns-clause-taken
returns-clause-taken c = index_got _ _ _ c.in_ok-index.ensures.taken c.if-index-eq63.false
