use Prim.Native.Nat.{ℕ}
use mathlib.Core.Path.{◌≡◌}
use mathlib.Core.Bool.{Bool}
use mathlib.Core.List.{List}
use lib.ListN.{length, get_or, drop}
use Rattle.side_info.specs.SideInfo.{idle_scfsi}
use Rattle.audio_data.specs.declared.Scfsi.{Scfsi}
use Rattle.audio_data.specs.Scfsi.{Three}
use Rattle.side_info_reading.specs.Taken.{Taken, each_taken}
use Rattle.side_info_reading.specs.Reading.{three_taken, in_granules, scalefactors_taken}
use Rattle.side_info_reader.proofs.read_scalefactors.Given as goal

-- the three of a slot, by its scfsi
abbrev pub three_of : List Scfsi → ℕ → List Bool → Taken Three
three_of scfsi slot = three_taken (get_or scfsi slot idle_scfsi)

abbrev pub invariant-loop-slot : goal.invariant-loop-slot
invariant-loop-slot l = (length l.scalefactor ≡ 192)
    × (each_taken (three_of l.scfsi) in_granules (drop l.slot-index l.slot-items) l.scalefactor l.reader.ahead ≡ scalefactors_taken l.scfsi l.slot-items l.initial.reader.ahead)
    × (l.reader.all ≡ l.initial.reader.all)
