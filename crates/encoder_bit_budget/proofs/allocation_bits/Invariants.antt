use Prim.Native.Nat.{◌*◌, ◌≤◌}
use mathlib.Core.Path.{◌≡◌}
use lib.ListN.{take}
use Rattle.layout.specs.Layout.{fields_of, sum_over}
use Rattle.bitalloc.specs.Tables.{nbal_of}
use Rattle.encoder_bit_budget.proofs.allocation_bits.Given as goal

abbrev pub invariant-loop-f : goal.invariant-loop-f
invariant-loop-f l = (l.bits ≡ sum_over (λ x. nbal_of l.table x.subband) (take l.f (fields_of l.layout))) × (l.bits ≤ 4 * l.f)
