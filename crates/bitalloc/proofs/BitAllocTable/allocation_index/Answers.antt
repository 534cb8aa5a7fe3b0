-- `bitalloc::BitAllocTable::allocation_index` meets its contract: the steps stand at one of three places of the row, if anywhere.
use mathlib.Core.Path.{◌∙◌, refl}
use native.Mathlib.Omega.{arith}
use Rattle.bitalloc.specs.Storage.{row_of16}
use Rattle.bitalloc.proofs.KeptLaws.{places_are, row_is}
use Rattle.bitalloc.proofs.RowLaws.{two_flags_small, row_long, index_missing, three_found, three_missed}
use borrow.Author.Rules.{rules}
use Rattle.bitalloc.proofs.BitAllocTable.allocation_index.Goals as goal

pub returns-then-places-eq0 : goal.returns-then-places-eq0
returns-then-places-eq0 c =
    let a = c.args in
    let are = places_are a.self a.sb _ _ c.range-range.ensures.whole c.places-places.ensures in
    index_missing _ _ _ _ (row_of16 a.self a.sb) refl are.whole (λ k h q. omega (arith, c.if-places-eq0.true))

pub first_of_three-first-requires : goal.first_of_three-first-requires
first_of_three-first-requires c =
    let a = c.args in
    let are = places_are a.self a.sb _ _ c.range-range.ensures.whole c.places-places.ensures in
    rw are.whole (row_long a.self a.sb (λ z. c.if-places-eq0.false (are.whole ∙ z)))

pub overflow_add-place : goal.overflow_add-place
overflow_add-place c =
    let f = two_flags_small c.row_in-row.result c.args.nb_steps c.first_of_three-first.result in
    search rules

pub overflow_add-place-3 : goal.overflow_add-place-3
overflow_add-place-3 c =
    let f = two_flags_small c.row_in-row.result c.args.nb_steps c.first_of_three-first.result in
    search rules

pub bounds-row-place : goal.bounds-row-place
bounds-row-place c =
    let f = two_flags_small c.row_in-row.result c.args.nb_steps c.first_of_three-first.result in
    search rules

pub overflow_cast-result : goal.overflow_cast-result
overflow_cast-result c =
    let f = two_flags_small c.row_in-row.result c.args.nb_steps c.first_of_three-first.result in
    search rules

pub returns-then-row-place : goal.returns-then-row-place
returns-then-row-place c =
    let r = c.row_in-row.result in
    let n = c.args.nb_steps in
    let e = c.range-range.ensures.whole in
    let s = c.first_of_three-first.result in
    three_found _ _ _ _ (row_is _ _ _ _ e c.row_in-row.ensures) (places_are _ _ _ _ e c.places-places.ensures).whole _ s _ c.first_of_three-first.ensures.whole refl
    (omega (arith, c.first_of_three-first.ensures.within, two_flags_small r n s)) c.if-row-place.true

pub returns-else-row-place : goal.returns-else-row-place
returns-else-row-place c =
    let e = c.range-range.ensures.whole in
    three_missed _ _ _ _ (row_is _ _ _ _ e c.row_in-row.ensures) (places_are _ _ _ _ e c.places-places.ensures).whole _ c.first_of_three-first.result _ c.first_of_three-first.ensures.whole refl c.if-row-place.false
