-- `plan_ratios::Slots::take_text` meets its contract.
use Rattle.std.proofs.Common.{sym, refl, ◌∙◌, arith}
use Rattle.std.proofs.lemmas.Result.{err_from_is_err_and}
use Rattle.plan_ratios.specs.declared.Slots.{Slots}
use Rattle.plan_ratios.proofs.PartLaws.{Met, At, at_front, one_more, part_taken, none_taken, part_refused, feed_met, blank_met, hash_met, none_left, last_taken, last_refused}
use Rattle.plan_ratios.proofs.Slots.take_text.Goals as goal
use Rattle.plan_ratios.proofs.Slots.take_text.Goals.{Joined-start-at, then-start-at+in_ok-take, else-start-at, then-byte-eq10, else-byte-eq10}

pub loop-at-init : goal.loop-at-init
loop-at-init c = at_front _ _ c.requires

pub returns-in_err-take : goal.returns-in_err-take
returns-in_err-take c =
    let refused = part_refused _ _ _ _ _ _ c.loop-at.invariant c.loop-at-test.true (sym c.is_end.ensures ∙ c.if-is_end.true) c.if-start-at.true _ c.in_err-take.ensures in
    let p = err_from_is_err_and c.from_residual.result c.from_residual.ensures.1 in
    rw (p.1, p.2) refused

-- at a byte that ends a token, what stands before it is taken
taken_at : (c : Joined-start-at) (a : Slots) → Met c.args.text.now a c.loop-at.line c.loop-at.start c.loop-at.at c.loop-at.self
    → At c.args.text.now a c.loop-at.line c.loop-at.at c.if-start-at.self
taken_at c a m =
    let e = sym c.is_end.ensures ∙ c.if-is_end.true in
    elim c.if-start-at.branch [
      | then-start-at+in_ok-take v ↦ rw (v.self-is) (part_taken _ _ _ _ _ _ m c.loop-at-test.true e v.if-start-at.true _ v.in_ok-take.ensures)
      | else-start-at v ↦ rw (v.self-is) (none_taken _ _ _ _ _ _ m c.loop-at-test.true e (let l = v.if-start-at.false in omega arith))
    ]

pub loop-at-preserved-then-byte-eq-HASH : goal.loop-at-preserved-then-byte-eq-HASH
loop-at-preserved-then-byte-eq-HASH c =
    let m = c.loop-at.invariant in
    let a = taken_at (goal.at.loop-at-preserved-then-byte-eq-HASH c).Joined-start-at _ m in
    hash_met _ _ _ _ _ a c.loop-at-test.true m.few c.if-byte-eq-HASH.true _ c.find_byte-at.ensures

pub loop-at-preserved-after-byte-eq10 : goal.loop-at-preserved-after-byte-eq10
loop-at-preserved-after-byte-eq10 c =
    let m = c.loop-at.invariant in
    let a = taken_at (goal.at.loop-at-preserved-after-byte-eq10 c).Joined-start-at _ m in
    elim c.if-byte-eq10.branch [
      | then-byte-eq10 v ↦ rw (v.line-is) (feed_met _ _ _ _ _ a c.loop-at-test.true m.few v.if-byte-eq10.true)
      | else-byte-eq10 v ↦
          rw (v.line-is)
          (blank_met _ _ _ _ _ a c.loop-at-test.true m.few v.if-byte-eq10.false c.if-byte-eq-HASH.false (sym c.is_end.ensures ∙ c.if-is_end.true))
    ]

pub loop-at-preserved : goal.loop-at-preserved
loop-at-preserved c = one_more _ _ _ _ _ _ c.loop-at.invariant c.loop-at-test.true (sym c.is_end.ensures ∙ c.if-is_end.false)

pub returns-in_err-take-2 : goal.returns-in_err-take-2
returns-in_err-take-2 c =
    let refused = last_refused _ _ _ _ _ _ c.loop-at.invariant (let l = c.loop-at-test.false in omega arith) c.if-start-text.true _ refl _ c.in_err-take-2.ensures in
    let p = err_from_is_err_and c.from_residual-in_err-take-2.result c.from_residual-in_err-take-2.ensures.1 in
    rw (p.1, p.2) refused

pub returns-in_ok-take-2 : goal.returns-in_ok-take-2
returns-in_ok-take-2 c =
    last_taken _ _ _ _ _ _ c.loop-at.invariant (let l = c.loop-at-test.false in omega arith) c.if-start-text.true _ refl _ c.in_ok-take-2.ensures

pub returns-else-start-text : goal.returns-else-start-text
returns-else-start-text c =
    none_left _ _ _ _ _ _ c.loop-at.invariant (let l = c.loop-at-test.false in omega arith) (let l = c.if-start-text.false in omega arith)
