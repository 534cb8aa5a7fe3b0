-- `c_answers::writing::put` meets its contract: the front is copied, and the rest stays.
use Rattle.c_answers.proofs.AnswerLaws.{put_front, fits}
use Rattle.c_answers.proofs.writing.put.Goals as goal

pub returns : goal.returns
returns g c =
    let front = put_front _ _ _ _ c.min-count.ensures c.copy_from_slice.ensures.after in
    record { front = front; whole = λ room. fits _ _ _ room front }
