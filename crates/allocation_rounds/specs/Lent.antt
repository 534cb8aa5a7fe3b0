-- The rules as tables that are lent: for each of up to 64 fields its top place, and sixteen ratios and sixteen charges, of the places 0 to 15
-- of field f at 16 * f. Whatever the tables hold, they are rules: a field past the 64th is not read, nor a place above 15.
use Rattle.std.specs.Prelude.{ℕ, ◌+◌, ◌*◌, min, List, Float, get_or}
use Rattle.std.specs.Float.{nan}
use Rattle.allocation_rounds.specs.declared.Tables.{Tables}
use Rattle.allocation_rounds.specs.Rounds.{Rules}

abbrev pub lent : ℕ → List ℕ → List Float → List ℕ → Rules
lent fields tops mnrs charges = record {
  fields = min fields 64;
  top = λ f. min (get_or tops f 0) 15;
  mnr = λ f p. get_or mnrs (16 * f + p) nan;
  charge = λ f p. get_or charges (16 * f + p) 0;
}

abbrev pub rules_in : Tables → Rules
rules_in t = lent t.fields t.tops t.mnrs t.charges
