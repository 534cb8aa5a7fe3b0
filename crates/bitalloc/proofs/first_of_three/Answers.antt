-- `bitalloc::first_of_three` meets its contract.
use mathlib.Core.Path.{ap, ◌∙◌}
use Prim.Native.Nat.{ℕ, ◌-◌}
use lib.Count.{leading_le}
use Rattle.bitalloc.proofs.RowLaws.{flag_within, one_less, three_fit}
use Rattle.bitalloc.proofs.first_of_three.Goals as goal

pub overflow_sub-digits : goal.overflow_sub-digits
overflow_sub-digits c = leading_le 32 c.args.nb_steps

pub overflow_sub-result : goal.overflow_sub-result
overflow_sub-result c = flag_within c.min-middle.result

pub returns : goal.returns
returns c =
    let a = c.args in
    let is = one_less c.min-middle.result ∙ ap (λ (n : ℕ). n - 1) c.min-middle.ensures in
    record { whole = is; within = rw is (three_fit a.places a.nb_steps c.requires) }
