-- `active_slots::active_slots` meets its contract. The loop's invariant: the active slots so far and those among the slots from `k` on are all.
use Rattle.std.proofs.Common.{◌<◌, ◌≤◌, refl, ltb, length, get_or, arith}
use borrow.Author.Rules.{rules}
use Rattle.bitalloc.proofs.RowLaws.{flag_small}
use Rattle.layout.specs.Layout.{slots_of}
use Rattle.active_slots.proofs.ActiveLaws.{zeros_below, none_active, one_active, all_active}
use Rattle.active_slots.proofs.active_slots.Goals as goal

pub loop-k-init : goal.loop-k-init
loop-k-init c = none_active _ _ _ refl (λ j. zeros_below j)

pub overflow_add-count : goal.overflow_add-count
overflow_add-count c =
    let few = flag_small (ltb 0 (get_or c.args.nb_steps c.slot-slot.result 0)) in
    let w = c.loop-k.invariant.within in
    search rules

pub loop-k-preserved : goal.loop-k-preserved
loop-k-preserved c =
    let l = c.loop-k in
    let a = c.args in
    let here : l.k < length (slots_of a.layout) = rw c.slots-slots.ensures.whole at c.loop-k-test.true in
    one_active a.layout a.nb_steps l.k l.count _ l.active l.invariant here c.slot-slot.ensures.whole c.slot-slot.ensures.below

pub returns : goal.returns
returns c =
    let l = c.loop-k in
    let over : length (slots_of c.args.layout) ≤ l.k = omega (arith, c.slots-slots.ensures.whole) in
    all_active _ _ l.k l.count l.active over l.invariant
