-- The loop's invariant: as many lines are there as were counted, and where no write failed these were written.
use Rattle.std.proofs.Common.{take, IsOk, OnOk}
use Rattle.std.specs.Io.KnownBytes.{Appends}
use Rattle.word_io.specs.Written.{page_text}
use Rattle.word_io.proofs.WrittenLaws.{Counted}
use Rattle.word_io.proofs.answer.write_answer.Given as goal

abbrev pub invariant-loop-n : goal.invariant-loop-n
invariant-loop-n g l =
    Counted (g.A.Answer.page l.words l.input) l.n
    × OnOk l.outcome (IsOk l.initial.outcome)
    × OnOk l.outcome (Appends (g.W.Write.contents l.initial.out) (g.W.Write.contents l.out) (page_text (take l.n (g.A.Answer.page l.words l.input))))
