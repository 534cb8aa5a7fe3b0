use Rattle.std.proofs.Common.{◌-◌, ◌≤◌}
use Rattle.word_io.proofs.WordLaws.{ReadSoFar}
use Rattle.word_io.proofs.read_words.Given as goal

abbrev pub invariant-loop-i : goal.invariant-loop-i
invariant-loop-i g l = ReadSoFar l.initial.words l.words l.at l.i × (l.i - 1 ≤ l.fn.count - 1)
