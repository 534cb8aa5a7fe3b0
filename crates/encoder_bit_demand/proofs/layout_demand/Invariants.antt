use Prim.Native.Nat.{◌*◌, ◌≤◌}
use mathlib.Core.Path.{◌≡◌}
use lib.ListN.{take}
use Rattle.layout.specs.Layout.{fields_of, sum_over}
use Rattle.encoder_bit_demand.specs.Demand.{field_demand}
use Rattle.encoder_bit_demand.proofs.layout_demand.Given as goal

abbrev pub invariant-loop-f : goal.invariant-loop-f
invariant-loop-f l = (l.bits ≡ sum_over (field_demand l.table l.smr_db) (take l.f (fields_of l.layout))) × (l.bits ≤ 616 * l.f)
