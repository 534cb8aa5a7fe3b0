use Prim.Native.Nat.{◌*◌, ◌≤◌}
use mathlib.Core.Path.{◌≡◌}
use lib.ListN.{take}
use Rattle.layout.specs.Layout.{fields_of, sum_over}
use Rattle.plan_page.specs.Rows.{bits_in}
use Rattle.plan_page.proofs.rows.subband_bits.Given as goal

abbrev pub invariant-loop-f : goal.invariant-loop-f
invariant-loop-f l = (l.bits ≡ sum_over (bits_in l.steps l.sb) (take l.f (fields_of l.fn.layout))) × (l.bits ≤ 616 * l.f)
