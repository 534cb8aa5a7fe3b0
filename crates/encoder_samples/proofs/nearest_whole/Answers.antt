-- `encoder_samples::nearest_whole` meets its contract: each of its cases is a law of the rounding.
use Rattle.std.proofs.Common.{T, sym, subst, arith, lit≤}
use lib.Ieee.{binary64, fits}
use Rattle.encoder_samples.proofs.Rounding.{at_zero, at_end, near}
use Rattle.encoder_samples.proofs.nearest_whole.Goals as goal
use Rattle.encoder_samples.proofs.nearest_whole.Goals.{Start}

held : (c : Start) → T (fits binary64 c.args.x)
held c = subst T (sym c.well_formed.0.1) tt

pub truncating_f64_to_u64-halves-requires : goal.truncating_f64_to_u64-halves-requires
truncating_f64_to_u64-halves-requires c =
    let range = (near _ (held (goal.at.truncating_f64_to_u64-halves-requires c).Start) c.if-x.true c.if-x-2.true).range in
    record { lower_bound = range.0; upper_bound = range.1 }

pub overflow_add-result : goal.overflow_add-result
overflow_add-result c =
    omega (arith, c.truncating_f64_to_u64-halves.ensures, (near _ (held (goal.at.overflow_add-result c).Start) c.if-x.true c.if-x-2.true).small)

pub returns-then-x-2 : goal.returns-then-x-2
returns-then-x-2 c =
    let n = near _ (held (goal.at.returns-then-x-2 c).Start) c.if-x.true c.if-x-2.true in
    rw c.truncating_f64_to_u64-halves.ensures (record { whole = n.whole; most = n.most })

pub returns-else-x-2 : goal.returns-else-x-2
returns-else-x-2 c = record { whole = at_end _ c.if-x.true c.if-x-2.false; most = lit≤ tt }

pub returns-else-x : goal.returns-else-x
returns-else-x c = record { whole = at_zero _ c.if-x.false; most = lit≤ tt }
