use mathlib.Core.List.{◌++◌, flat_map}
use mathlib.Core.Path.{◌≡◌}
use lib.ListN.{drop}
use Rattle.layout.specs.Layout.{fields_of}
use Rattle.side_info.specs.SideInfo.{allocation_field_bits}
use Rattle.side_info_writer.proofs.AskedLaws.{PassedTo}
use Rattle.side_info_writer.proofs.write_allocation.Given as goal

abbrev pub invariant-loop-f : goal.invariant-loop-f
invariant-loop-f l = PassedTo l.layout l.info l.f
    × (l.writer ++ flat_map (allocation_field_bits l.layout l.info) (drop l.f (fields_of l.layout))
    ≡ l.initial.writer ++ flat_map (allocation_field_bits l.layout l.info) (fields_of l.layout))
