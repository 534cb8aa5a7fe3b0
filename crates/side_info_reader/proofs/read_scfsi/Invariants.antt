use mathlib.Core.Path.{◌≡◌}
use lib.ListN.{length, drop}
use Rattle.side_info_reading.specs.Taken.{each_taken}
use Rattle.side_info_reading.specs.Reading.{scfsi_taken, in_slot, scfsis_taken}
use Rattle.side_info_reader.proofs.read_scfsi.Given as goal

abbrev pub invariant-loop-slot : goal.invariant-loop-slot
invariant-loop-slot l = (length l.scfsi ≡ 64)
    × (each_taken scfsi_taken in_slot (drop l.slot-index l.slot-items) l.scfsi l.reader.ahead ≡ scfsis_taken l.slot-items l.initial.reader.ahead)
    × (l.reader.all ≡ l.initial.reader.all)
