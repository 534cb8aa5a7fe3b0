-- The number of a slot's questions, by what the code asks.
use Rattle.std.specs.Prelude.{Option, None, Some}
use mathlib.Core.Path.{◌≡◌, refl, sym, ap, ap₂, ◌∙◌, subst}
use mathlib.Core.Bool.{Bool, true, false, not, cond, ◌&&◌, ◌||◌}
use Prim.Native.Nat.{ℕ, ◌+◌, ◌<◌}
use native.Mathlib.Omega.{arith}
use lib.Dec.{eqb}
use lib.ListN.{get_or}
use borrow.Author.Tests.{eq-eqb, ne_eqb}
use Rattle.tables.specs.Search.{entry_at}
use Rattle.header.specs.Questions.{number}
use Rattle.layout.specs.declared.Layout.{Layout}
use Rattle.layout.specs.declared.AllocationField.{AllocationField}
use Rattle.layout.specs.Slots.{slot_of, channel_in, subband_in}
use Rattle.layout.specs.Layout.{served_by, fields_of, field_in}
use Rattle.layout.proofs.FieldLaws.{serves_first, channel_small}
use Rattle.audio_data.specs.Scfsi.{agreeing}
use Rattle.side_info.specs.declared.SideInfo.{SideInfo}
use Rattle.side_info.specs.SideInfo.{scfsi_in, scalefactors_in, shared_asked}
use Rattle.record_check.specs.Together.{field_serving}
use Rattle.side_info.proofs.ShareLaws.{shared_is}
use Rattle.record_check.specs.Check.{asked_by, slot_asked}
use Rattle.record_check.proofs.SlotLaws.{serving, found}

both_say : (both same free : Bool)
    → ◌≡◌ {A = ℕ} (cond (both && not same) 6 (cond free 0 18)) (elim (cond both same true) [ true ↦ elim free [ true ↦ 0 | false ↦ 18 ] | false ↦ 6 ])
both_say true true true = refl
both_say true true false = refl
both_say true false free = refl
both_say false same true = refl
both_say false same false = refl

module _ (l : Layout) (s : SideInfo) (ch sb : ℕ) (two : ch < 2) (small : sb < 32) where
  abbrev slot : ℕ
  slot = slot_of ch sb

  abbrev empty : Bool
  empty = eqb (get_or s.steps slot 0) 0

  abbrev equal : Bool
  equal = eqb (get_or s.steps (32 + sb) 0) (get_or s.steps sb 0)

  abbrev agreed : Bool
  agreed = agreeing (scfsi_in s slot) (scalefactors_in s slot)

  place_is : served_by l ch sb ≡ field_serving l slot
  place_is =
      let c : channel_in slot ≡ ch = omega arith in
      let b : subband_in slot ≡ sb = omega arith in
      sym (ap₂ (served_by l) c b)

  outside : cond empty 0 17 ≡ number (asked_by s slot None)
  outside = go empty
    where
      go : (b : Bool) → ◌≡◌ {A = ℕ} (cond b 0 17) (elim b [ true ↦ 0 | false ↦ 17 ])
      go true = refl
      go false = refl

  -- of a slot that no field serves
  by_none : None ≡ served_by l ch sb → cond empty 0 17 ≡ number (slot_asked l s slot)
  unfolding slot_asked
  by_none e = outside ∙ ap (λ (o : Option ℕ). number (asked_by s slot (entry_at (fields_of l) o))) (e ∙ place_is)

  pub none_empty : None ≡ served_by l ch sb → get_or s.steps slot 0 ≡ 0 → 0 ≡ number (slot_asked l s slot)
  none_empty e z = ap (λ (b : Bool). cond b 0 17) (sym (eq-eqb (get_or s.steps slot 0) 0 z)) ∙ by_none e

  pub none_active : None ≡ served_by l ch sb → (get_or s.steps slot 0 ≡ 0 → ⊥) → 17 ≡ number (slot_asked l s slot)
  none_active e n = ap (λ (b : Bool). cond b 0 17) (sym (ne_eqb (get_or s.steps slot 0) 0 n)) ∙ by_none e

  -- and of one that a field serves
  module _ (f : ℕ) (x : AllocationField) (served : Some f ≡ served_by l ch sb) (is : x ≡ field_in (fields_of l) f) where
    serving_is : field_serving l slot ≡ Some f
    serving_is = sym (served ∙ place_is)

    shared : cond x.both equal true ≡ (shared_asked s x).yes
    shared =
        let v = serving l f slot serving_is in
        let same : x.subband ≡ sb = ap (λ (y : AllocationField). y.subband) is ∙ v.subband ∙ omega arith in
        let first = subst (λ (y : AllocationField). y.channel < 2) (sym is) (channel_small l f v.here (field_in (fields_of l) f).channel (serves_first l f v.here)) in
        ap (λ (k : ℕ). cond x.both (eqb (get_or s.steps (32 + k) 0) (get_or s.steps k 0)) true) (sym same) ∙ shared_is s x first

    asked : number (asked_by s slot (Some x)) ≡ number (slot_asked l s slot)
    unfolding slot_asked
    asked =
        ap (λ (y : AllocationField). number (asked_by s slot (Some y))) is
        ∙ ap (λ (o : Option AllocationField). number (asked_by s slot o)) (sym (found l f slot serving_is))
        ∙ ap (λ (o : Option ℕ). number (asked_by s slot (entry_at (fields_of l) o))) (sym serving_is)

    -- from the code's own test of the indices
    pub by_field : (agree differ free : Bool) → agree ≡ agreed → (x.both && not equal) ≡ differ → (empty || agree) ≡ free
        → cond differ 6 (cond free 0 18) ≡ number (slot_asked l s slot)
    by_field agree differ free a d g =
        sym (ap₂ (λ (v w : Bool). cond v 6 (cond w 0 18)) d g)
        ∙ ap (λ (v : Bool). cond (x.both && not equal) 6 (cond (empty || v) 0 18)) a
        ∙ both_say x.both equal (empty || agreed)
        ∙ ap (λ (v : Bool). elim v [ true ↦ elim (empty || agreed) [ true ↦ 0 | false ↦ 18 ] | false ↦ 6 ]) shared
        ∙ asked
