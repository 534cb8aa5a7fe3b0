-- `encoder_samples::write_triplet` meets its contract: the codes are the definition's, and so is the way that they are packed.
use Rattle.encoder_samples.proofs.Grouping.{one_codeword_lem, three_codewords_lem}
use Rattle.encoder_samples.proofs.write_triplet.Goals as goal

pub returns-then-class : goal.returns-then-class
returns-then-class c =
    one_codeword_lem _ _ _ _ _ c.quantize_sample-first.ensures c.quantize_sample-second.ensures c.quantize_sample-third.ensures
    _ c.if-class.true c.group_combined-codeword.ensures

pub returns-else-class : goal.returns-else-class
returns-else-class c =
    three_codewords_lem _ _ _ _ _ c.quantize_sample-first.ensures c.quantize_sample-second.ensures c.quantize_sample-third.ensures
    c.if-class.false
