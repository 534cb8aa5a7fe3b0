-- `side_page::accepted_line` meets its contract.
use Rattle.std.proofs.Common.{◌≡◌, ap, sym, ◌∙◌, ℕ, ◌-◌, ◌<◌, ◌≤◌, List, length}
use Rattle.std.specs.Prelude.{Some, get_or, slice_get}
use Rattle.std.proofs.lemmas.Grind.{get_or_default_zero}
use borrow.Author.Tests.{ltb-true, ltb-false}
use Rattle.active_slots.specs.Active.{listed}
use Rattle.side_page.specs.Page.{row_of, foot_of}
use Rattle.side_page.proofs.PageLaws.{in_head, in_rows, in_foot}
use Rattle.side_page.proofs.accepted_line.Goals as goal

pub returns-then-n-lt3 : goal.returns-then-n-lt3
returns-then-n-lt3 c = c.head_line.ensures ∙ sym (in_head _ _ _ _ _ _ c.if-n-lt3.true)

pub returns-in-Some : goal.returns-in-Some
returns-in-Some c =
    let e = c.as_slice-slots.ensures in
    let here = ltb-true _ _ (sym c.in-Some.ensures.lookup.0) in
    let l : c.args.n - 3 < length (listed c.args.active) = rw (← e) here in
    let slot : c.in-Some.slot.now ≡ get_or (listed c.args.active) (c.args.n - 3) 0 =
    rw (← e) (c.in-Some.ensures.lookup.1 ∙ get_or_default_zero _ _ _ here) in
    ap Some (c.row_line.ensures ∙ ap (row_of c.args.read.now.info) (c.from.ensures ∙ slot)) ∙ sym (in_rows _ _ _ _ _ _ c.if-n-lt3.false l)

pub returns-in-None : goal.returns-in-None
returns-in-None c =
    let e = c.as_slice-slots.ensures in
    let l : length (listed c.args.active) ≤ c.args.n - 3 = rw (← e) (ltb-false _ _ (sym c.in-None.ensures.lookup.0)) in
    c.foot_line.ensures
    ∙ ap (λ (xs : List ℕ). slice_get (foot_of c.from-in-None.result) (c.args.n - 3 - length xs)) e
    ∙ ap (λ (bits : ℕ). slice_get (foot_of bits) (c.args.n - 3 - length (listed c.args.active))) c.from-in-None.ensures
    ∙ sym (in_foot _ _ _ _ _ _ c.if-n-lt3.false l)
