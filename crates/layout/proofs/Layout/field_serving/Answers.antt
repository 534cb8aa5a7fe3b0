-- `layout::Layout::field_serving` meets its contract.
use native.Mathlib.Omega.{arith}
use mathlib.Core.Logic.{inl}
use borrow.Author.Tests.{eq-eqb, ne_eqb, lt-ltb, le-ltb}
use Rattle.layout.proofs.NumberLaws.{Carried, Outside}
use Rattle.layout.proofs.FieldLaws.{serving_is, none_serves, past_limit}
use Rattle.layout.proofs.Layout.field_serving.Goals as goal

pub returns-then-sblimit-subband : goal.returns-then-sblimit-subband
returns-then-sblimit-subband c = past_limit _ _ _ (rw c.sblimit-sblimit.ensures.whole at c.if-sblimit-subband.true)

pub returns-then-channel-eq0 : goal.returns-then-channel-eq0
unfolding Carried
returns-then-channel-eq0 c =
    let limit = c.sblimit-sblimit.ensures in
    let e = eq-eqb _ _ c.if-self-eq1.true in
    serving_is _ _ _ _ (rw e (c.if-channel-eq0.true, rw limit.whole at c.if-sblimit-subband.false)) (rw e) (omega arith)

pub returns-then-self-eq1 : goal.returns-then-self-eq1
unfolding Outside
returns-then-self-eq1 c = none_serves _ _ _ (rw (eq-eqb _ _ c.if-self-eq1.true) (inl (omega arith)))

pub returns-then-channel-ge2 : goal.returns-then-channel-ge2
unfolding Outside
returns-then-channel-ge2 c = none_serves _ _ _ (rw (ne_eqb _ _ c.if-self-eq1.false) (inl c.if-channel-ge2.true))

pub returns-then-subband-self : goal.returns-then-subband-self
unfolding Carried
returns-then-subband-self c =
    let limit = c.sblimit-sblimit.ensures in
    let e = ne_eqb _ _ c.if-self-eq1.false in
    serving_is _ _ _ _ (rw e (c.if-channel-ge2.false, rw limit.whole at c.if-sblimit-subband.false)) (rw (e, lt-ltb _ _ c.if-subband-self.true)) (omega arith)

pub returns-else-subband-self : goal.returns-else-subband-self
unfolding Carried
returns-else-subband-self c =
    let limit = c.sblimit-sblimit.ensures in
    let e = ne_eqb _ _ c.if-self-eq1.false in
    serving_is _ _ _ _ (rw e (c.if-channel-ge2.false, rw limit.whole at c.if-sblimit-subband.false)) (rw (e, le-ltb _ _ c.if-subband-self.false)) (omega arith)
