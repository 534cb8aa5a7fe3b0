-- `ieee_order::min` meets its contract: its test is the definition's, since a NaN compares with nothing.
use mathlib.Core.Path.{sym, ◌∙◌}
use mathlib.Core.Bool.{true≢false}
use mathlib.Core.Logic.{inl, inr}
use lib.Ieee.{lt}
use denote.Floats.{passes}
use Rattle.ieee_order.specs.Order.{min_of}
use Rattle.ieee_order.proofs.Order.{lt_numbers}
use Rattle.ieee_order.proofs.Extremes.{takes_first, takes_second}
use Rattle.ieee_order.proofs.min.Goals as goal
use Rattle.ieee_order.proofs.min.Goals.{then-b-a, else-b-a}

pub returns-then-is_nan : goal.returns-then-is_nan
unfolding min_of
returns-then-is_nan c =
    let b = c.args.b in
    let a = c.args.a in
    takes_second _ _ _ (λ e. (lt_numbers b a (passes (lt b a) e)).0) (
    elim c.if-b-a.branch [
      | then-b-a w ↦ inl w.if-b-a.true
      | else-b-a w ↦ inr (sym w.is_nan.ensures.value ∙ sym w.value-is ∙ c.if-is_nan.true)
    ]
    )

pub returns-else-is_nan : goal.returns-else-is_nan
unfolding min_of
returns-else-is_nan c =
    elim c.if-b-a.branch [
      | then-b-a w ↦ absurd (true≢false (sym w.if-b-a.true ∙ sym w.value-is ∙ c.if-is_nan.false))
      | else-b-a w ↦ takes_first _ _ _ w.if-b-a.false (sym w.is_nan.ensures.value ∙ sym w.value-is ∙ c.if-is_nan.false)
    ]
