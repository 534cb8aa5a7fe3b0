-- `encoder_samples::write_triplet_for` meets its contract: a class that is found keeps the rule, so its codewords are held by their bits.
use Rattle.std.proofs.Common.{sym, refl}
use Rattle.encoder_samples.proofs.Answers.{no_triplet_lem, some_triplet}
use Rattle.encoder_samples.proofs.write_triplet_for.Goals as goal

pub returns-in_err-found : goal.returns-in_err-found
returns-in_err-found c = let b = c.in_err-found.ensures in rw c.from_residual.ensures (no_triplet_lem _ _ (sym b.whole))

pub returns : goal.returns
returns c =
    let b = c.in_ok-found.ensures in
    some_triplet _ _ c.in_ok-found.found _ (sym b.whole) (b.ruled c.in_ok-found.found refl).1 c.write_triplet.ensures
