use Rattle.std.proofs.Common.{◌≡◌, ◌-◌, length}
use Rattle.plan_words.specs.Line.{settled, words_of}
use Rattle.plan_words.proofs.LineLaws.{words_from}
use Rattle.plan_words.proofs.read_words.Given as goal

abbrev pub invariant-loop-at : goal.invariant-loop-at
invariant-loop-at l = words_of l.words ≡ settled l.settings (words_from l.at l.words)

abbrev pub decreases-loop-at : goal.decreases-loop-at
decreases-loop-at l = length l.words - l.at
