-- Every question of the writer is answered yes of the steps that an allocation ends at.
use Rattle.std.specs.Prelude.{Option, None, Some, option_map, is_some}
use mathlib.Core.Path.{◌≡◌, refl, sym, ap₂, ◌∙◌, subst}
use mathlib.Core.Bool.{Bool, true, false, cond, ◌&&◌}
use mathlib.Core.List.{List, [], ◌∷◌}
use Prim.Native.Nat.{ℕ, zero, suc, ◌+◌, ◌*◌, ◌≤◌, ◌<◌}
use native.Mathlib.Nat.{not-suc-le-zero, le_of_suc-le-suc}
use native.Mathlib.Decide.{dec_lt}
use native.Mathlib.Omega.{arith}
use lib.Dec.{T, eqb}
use lib.Ieee.{Float}
use lib.ListN.{length, get_or, get_or-eq_default}
use borrow.Author.Tests.{eq-eqb, le-leb}
use Rattle.tables.specs.Search.{place}
use Rattle.header.specs.Questions.{number}
use Rattle.bitalloc.specs.Tables.{row_of, index_of}
use Rattle.layout.specs.declared.Layout.{Layout}
use Rattle.layout.specs.Layout.{own, served, fields_of, field_in, field_steps}
use Rattle.layout.proofs.FieldLaws.{carried}
use Rattle.allocation_rounds.specs.Rounds.{place_in}
use Rattle.allocation_run.proofs.RuleLaws.{sound_row}
use Rattle.allocation_worth.specs.Worth.{places_from, Worth}
use Rattle.side_info.specs.declared.SideInfo.{SideInfo}
use Rattle.side_info.specs.SideInfo.{active_slots, scalefactor_asked, record_asked}
use Rattle.side_info.proofs.ListLaws.{each_at}
use Rattle.side_info.proofs.ShareLaws.{all_same}
use Rattle.side_info.proofs.AskedLaws.{FieldYes, record_passes}

-- ---- a number that a list has is found

some_is : (o : Option ℕ) → is_some o ≡ true → is_some (option_map suc o) ≡ true
some_is None e = e
some_is (Some n) e = refl

found : (n : ℕ) (row : List ℕ) (i : ℕ) → i < length row → get_or row i 0 ≡ n → is_some (place (λ m. eqb m n) row) ≡ true
found n [] i h e = absurd (not-suc-le-zero h)
found n (m ∷ row) zero h e = rw (eq-eqb m n e)
found n (m ∷ row) (suc i) h e = go (eqb m n) (found n row i (le_of_suc-le-suc h) e)
  where
    go : (b : Bool) → is_some (place (λ k. eqb k n) row) ≡ true → is_some (cond b (Some 0) (option_map suc (place (λ k. eqb k n) row))) ≡ true
    go true r = refl
    go false r = some_is (place (λ k. eqb k n) row) r

-- a row has what stands at any of its places, and 0, which `get_or` gives behind them
row_has : (n : ℕ) (row : List ℕ) (p : ℕ) → 0 < length row → get_or row 0 0 ≡ 0 → get_or row p 0 ≡ n → is_some (place (λ m. eqb m n) row) ≡ true
row_has n row p long zeroth e = go (dec_lt p (length row))
  where
    go : Dec (p < length row) → is_some (place (λ m. eqb m n) row) ≡ true
    go (yes h) = found n row p h e
    go (no h) = found n row 0 long (zeroth ∙ sym (get_or-eq_default row 0 {n = p} (omega arith)) ∙ e)

-- ---- the fields

module _ (l : Layout) (smr : List (List Float)) (costs : List ℕ) (offered left : ℕ) (r : SideInfo) (w : Worth l smr costs offered r.steps left) where
  pub field_yes : (f : ℕ) → f < length (fields_of l) → FieldYes l r (field_in (fields_of l) f)
  unfolding index_of
  field_yes f h =
      let x = field_in (fields_of l) f in
      let t = l.table in
      let row = row_of t x.subband in
      let sound = sound_row t x.subband (carried l f h) in
      record {
        shared = all_same r.steps x (served x) (λ ch c. w.both f ch h (subst T (sym c) tt));
        row = row_has (field_steps r.steps x) row (place_in (places_from l r.steps) f) (let m = sound.some in omega arith) sound.zeroth (w.in_row f h);
      }

  pub passes : ((i : ℕ) → get_or r.scalefactors i 0 ≤ 62) → number (record_asked l r) ≡ 0
  passes small = record_passes l r (record {
    fields = each_at (FieldYes l r) (own 0 0) (fields_of l) field_yes;
    slots = each_at (λ slot. (scalefactor_asked r slot).yes ≡ true) 0 (active_slots l r.steps) (λ k h. tabled_slot (get_or (active_slots l r.steps) k 0));
  })
    where
      tabled_slot : (slot : ℕ) → (scalefactor_asked r slot).yes ≡ true
      tabled_slot slot = ap₂ ◌&&◌ (ap₂ ◌&&◌ (le-leb _ 62 (small (3 * slot))) (le-leb _ 62 (small (3 * slot + 1)))) (le-leb _ 62 (small (3 * slot + 2)))
