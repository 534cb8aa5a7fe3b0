use Rattle.std.proofs.Common.{◌-◌, length}
use Rattle.hex_text.proofs.WalkLaws.{Walked}
use Rattle.hex_text.proofs.read_hex.Given as goal

abbrev pub invariant-loop-at : goal.invariant-loop-at
invariant-loop-at l = Walked l.text l.initial.bytes l.bytes l.line l.column l.digits l.at

abbrev pub decreases-loop-at : goal.decreases-loop-at
decreases-loop-at l = length l.text - l.at
