use Rattle.side_rows.proofs.RowLaws.{Spelling}
use Rattle.side_rows.proofs.spelled.Given as goal

abbrev pub invariant-loop-i : goal.invariant-loop-i
invariant-loop-i l = Spelling l.n l.digits l.rest l.i
