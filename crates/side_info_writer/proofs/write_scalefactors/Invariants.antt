use mathlib.Core.List.{◌++◌, flat_map}
use mathlib.Core.Path.{◌≡◌}
use lib.ListN.{drop}
use Rattle.side_info.specs.SideInfo.{scalefactor_bits}
use Rattle.side_info_writer.proofs.write_scalefactors.Given as goal

abbrev pub invariant-loop-slot : goal.invariant-loop-slot
invariant-loop-slot l =
    l.writer ++ flat_map (scalefactor_bits l.info) (drop l.slot-index (l.slot-items))
    ≡ l.initial.writer ++ flat_map (scalefactor_bits l.info) (l.slot-items)
