-- `bitalloc::kept_rows::nbal` meets its contract: the ranges one by one, and none past the last.
use mathlib.Core.Path.{sym}
use native.Mathlib.Omega.{arith}
use lib.ListN.{get_or-eq_default}
use borrow.Author.Rules.{rules}
use Rattle.bitalloc.specs.Kept.{nbals}
use Rattle.bitalloc.proofs.kept_rows.nbal.Goals as goal

pub returns-in_default : goal.returns-in_default
returns-in_default c =
    record {
      whole = sym (get_or-eq_default nbals 0 {n = c.args.range} (omega arith));
      small = search rules;
    }
