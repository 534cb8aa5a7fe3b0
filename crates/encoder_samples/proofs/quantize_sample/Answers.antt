-- `encoder_samples::quantize_sample` meets its contract: it ends the codes at the last one.
use Rattle.std.proofs.Common.{◌∙◌}
use Rattle.encoder_samples.specs.Samples.{quantized}
use Rattle.encoder_samples.proofs.quantize_sample.Goals as goal

pub returns : goal.returns
unfolding quantized
returns c = c.code_to.ensures ∙ simp c.last_code-last.ensures
