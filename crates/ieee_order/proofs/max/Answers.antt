-- `ieee_order::max` meets its contract: its test is the definition's, since a NaN compares with nothing.
use mathlib.Core.Path.{sym, ◌∙◌}
use mathlib.Core.Bool.{true≢false}
use mathlib.Core.Logic.{inl, inr}
use lib.Ieee.{lt}
use denote.Floats.{passes}
use Rattle.ieee_order.specs.Order.{max_of}
use Rattle.ieee_order.proofs.Order.{lt_numbers}
use Rattle.ieee_order.proofs.Extremes.{takes_first, takes_second}
use Rattle.ieee_order.proofs.max.Goals as goal
use Rattle.ieee_order.proofs.max.Goals.{then-a-b, else-a-b}

pub returns-then-is_nan : goal.returns-then-is_nan
unfolding max_of
returns-then-is_nan c =
    let a = c.args.a in
    let b = c.args.b in
    takes_second _ _ _ (λ e. (lt_numbers a b (passes (lt a b) e)).1) (
    elim c.if-a-b.branch [
      | then-a-b w ↦ inl w.if-a-b.true
      | else-a-b w ↦ inr (sym w.is_nan.ensures.value ∙ sym w.value-is ∙ c.if-is_nan.true)
    ]
    )

pub returns-else-is_nan : goal.returns-else-is_nan
unfolding max_of
returns-else-is_nan c =
    elim c.if-a-b.branch [
      | then-a-b w ↦ absurd (true≢false (sym w.if-a-b.true ∙ sym w.value-is ∙ c.if-is_nan.false))
      | else-a-b w ↦ takes_first _ _ _ w.if-a-b.false (sym w.is_nan.ensures.value ∙ sym w.value-is ∙ c.if-is_nan.false)
    ]
