use Rattle.std.proofs.Common.{rules}
use Rattle.word_io.proofs.WordLaws.{none_yet, one_more, all_read}
use Rattle.word_io.proofs.read_words.Goals as goal

pub loop-i-init : goal.loop-i-init
loop-i-init g c = (none_yet _, search rules)

pub loop-i-preserved : goal.loop-i-preserved
loop-i-preserved g c = (one_more c.loop-i.invariant.0 c.read_word-at.ensures, search rules)

pub returns : goal.returns
returns g c = all_read c.loop-i.invariant.0 c.loop-i-test.false c.loop-i.invariant.1
