-- `encoder_samples::code_to` meets its contract: its three operations are those of the definition.
use Rattle.std.proofs.Common.{◌∙◌}
use Rattle.encoder_samples.specs.Samples.{code_to, scaled}
use Rattle.encoder_samples.proofs.code_to.Goals as goal

pub returns : goal.returns
unfolding code_to scaled
returns c = c.clamp.ensures ∙ simp c.half_range-half.ensures.whole
