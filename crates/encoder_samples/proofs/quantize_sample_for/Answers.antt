-- `encoder_samples::quantize_sample_for` meets its contract: a class that is found keeps the rule, so its codes are in range.
use Rattle.std.proofs.Common.{sym, refl}
use Rattle.encoder_samples.proofs.Answers.{no_code, some_code}
use Rattle.encoder_samples.proofs.quantize_sample_for.Goals as goal

pub returns-in_err-class : goal.returns-in_err-class
returns-in_err-class c = let b = c.in_err-class.ensures in rw c.from_residual.ensures (no_code _ _ (sym b.whole))

pub returns : goal.returns
returns c =
    let b = c.in_ok-class.ensures in
    some_code _ _ c.in_ok-class.class _ (sym b.whole) (b.ruled c.in_ok-class.class refl).1 c.quantize_sample.ensures
