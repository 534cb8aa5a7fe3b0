-- `encoder_bit_allocator::accepted` meets its contract.
use Rattle.encoder_bit_allocator.proofs.AnswerLaws.{made}
use Rattle.encoder_bit_allocator.proofs.accepted.Goals as goal

pub returns : goal.returns
returns c =
    made _ _ _ _ _ _ _ c.run_of-run.ensures c.new-audio.ensures c.steps_held-audio.ensures
