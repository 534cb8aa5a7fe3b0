-- `ladder::ladder_of` meets its contract: each list is the ladder's, in bit/s.
use mathlib.Core.Path.{refl}
use Rattle.ladder.specs.Ladder.{ladder, lsf_ladder, ladder_of}
use Rattle.ladder.proofs.ladder_of.Goals as goal

pub returns-then-lsf : goal.returns-then-lsf
unfolding ladder_of ladder lsf_ladder
returns-then-lsf c = rw c.if-lsf.true refl

pub returns-else-lsf : goal.returns-else-lsf
unfolding ladder_of ladder lsf_ladder
returns-else-lsf c = rw c.if-lsf.false refl
