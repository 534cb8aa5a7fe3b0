use mathlib.Core.Path.{◌≡◌}
use lib.ListN.{length, drop}
use Rattle.layout.specs.Layout.{fields_of}
use Rattle.side_info_reading.specs.Taken.{each_taken}
use Rattle.side_info_reading.specs.Reading.{field_taken, in_slots, allocation_taken}
use Rattle.side_info_reader.proofs.read_allocation.Given as goal

abbrev pub invariant-loop-f : goal.invariant-loop-f
invariant-loop-f l = (length l.nb_steps ≡ 64)
    × (each_taken (field_taken l.layout) in_slots (drop l.f (fields_of l.layout)) l.nb_steps l.reader.ahead ≡ allocation_taken l.layout l.initial.reader.ahead)
    × (l.reader.all ≡ l.initial.reader.all)
