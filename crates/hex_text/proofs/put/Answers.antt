-- `hex_text::put` meets its contract.
use mathlib.Core.Path.{refl, ap, ◌∙◌}
use native.Mathlib.Omega.{arith}
use lib.ListN.{length, length-set}
use Rattle.hex_text.proofs.DigitLaws.{high_put, low_put}
use Rattle.hex_text.proofs.put.Goals as goal

pub returns-in-Some : goal.returns-in-Some
returns-in-Some c =
    let stored = c.store.ensures in
    record {
      more = λ digits h. low_put digits _ _ _ h _ _ _ c.in-Some.is refl refl stored;
      small = tt;
      last = refl;
      long = ap length stored ∙ simp length-set;
      count = omega arith;
    }

pub returns-in-None : goal.returns-in-None
returns-in-None c = record {
  more = λ digits h. high_put digits _ _ _ h _ c.in-None.is refl refl;
  small = c.requires.digit;
  last = refl;
  long = refl;
  count = omega arith;
}
