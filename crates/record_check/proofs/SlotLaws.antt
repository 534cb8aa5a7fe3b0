-- What a slot's questions come to: all are answered yes where the three conditions hold, and otherwise the first that fails has its number.
use Rattle.std.proofs.lemmas.Option.{none-some, same_Some}
use Rattle.std.specs.Prelude.{Option, None, Some, is_some}
use mathlib.Core.Path.{◌≡◌, refl, sym, ap, ap₂, ◌∙◌, subst}
use mathlib.Core.Bool.{Bool, true, false, not, ◌&&◌, ◌||◌, true≢false}
use mathlib.Core.Logic.{◌⊎◌, inl, inr}
use Prim.Native.Nat.{ℕ, ◌<◌}
use native.Mathlib.Decide.{dec_lt}
use native.Mathlib.Omega.{arith}
use lib.Dec.{T, eqb}
use lib.Ieee.Bits.{is_true}
use lib.ListN.{length, get_or}
use borrow.Author.Tests.{eqb-true, eqb-false}
use Rattle.tables.specs.Search.{entry_at, one_of}
use Rattle.tables.proofs.Rule.{both_true}
use Rattle.tables.proofs.Search.{at_place, there_only}
use Rattle.header.specs.Questions.{number}
use Rattle.header.proofs.QuestionLaws.{refusing}
use Rattle.bitalloc.proofs.RowLaws.{sblimit_small}
use Rattle.layout.specs.declared.Layout.{Layout}
use Rattle.layout.specs.declared.AllocationField.{AllocationField}
use Rattle.layout.specs.Slots.{slot_of, channel_in, subband_in}
use Rattle.layout.specs.Layout.{own, served, serves, served_by, fields_of, field_in, field_steps, slots_of}
use Rattle.layout.proofs.FieldLaws.{carried, serves_first, channel_small, served_once}
use Rattle.layout.proofs.ServedLaws.{slot_served}
use Rattle.audio_data.specs.Scfsi.{Agrees, agreeing}
use Rattle.audio_data.proofs.ScfsiLaws.{agreeing_true, agrees_true}
use Rattle.side_info.specs.declared.SideInfo.{SideInfo}
use Rattle.side_info.specs.SideInfo.{scfsi_in, scalefactors_in, active_slots, shared_asked}
use Rattle.record_check.specs.Together.{field_serving, StepsCarried, StepsShared, IndicesShared, SlotHolds}
use Rattle.side_info.proofs.ShareLaws.{all_same, same_all}
use Rattle.side_info.proofs.ActiveLaws.{active_is}
use Rattle.record_check.specs.Check.{sharing_asked, asked_by, slot_asked, FailsBy}

-- ---- the field that serves a slot

module _ (l : Layout) where
  -- the field of a number serves the slot
  pub record Serves (f slot : ℕ) : Type 0 where
    pub here : f < length (fields_of l)
    pub subband : (field_in (fields_of l) f).subband ≡ subband_in slot
    pub channel : one_of (served (field_in (fields_of l) f)) (channel_in slot) ≡ true

  pub serving : (f slot : ℕ) → field_serving l slot ≡ Some f → Serves f slot
  serving f slot e =
      let test = serves (channel_in slot) (subband_in slot) in
      let p = at_place test (fields_of l) f e in
      let q = there_only (fields_of l) f p.0 (own 0 0) p.1 in
      let x = field_in (fields_of l) f in
      let b = both_true (eqb x.subband (subband_in slot)) (one_of (served x) (channel_in slot)) (ap test q.1 ∙ p.2) in
      record { here = q.0; subband = eqb-true x.subband (subband_in slot) b.0; channel = b.1 }

  -- it is the entry of its number
  pub found : (f slot : ℕ) → field_serving l slot ≡ Some f → entry_at (fields_of l) (Some f) ≡ Some (field_in (fields_of l) f)
  found f slot e =
      let p = at_place (serves (channel_in slot) (subband_in slot)) (fields_of l) f e in
      p.1 ∙ ap Some (sym (there_only (fields_of l) f p.0 (own 0 0) p.1).1)

  -- its first channel is one that it serves
  own_channel : (f : ℕ) → f < length (fields_of l) → one_of (served (field_in (fields_of l) f)) (field_in (fields_of l) f).channel ≡ true
  own_channel f h = is_true _ (serves_first l f h)

  -- every slot that it serves has it, the first among them
  serves_slot : (f : ℕ) → f < length (fields_of l) → (ch : ℕ) → one_of (served (field_in (fields_of l) f)) ch ≡ true
      → field_serving l (slot_of ch (field_in (fields_of l) f).subband) ≡ Some f
  serves_slot f h ch t =
      let sb = (field_in (fields_of l) f).subband in
      let small : sb < 32 = omega (arith, carried l f h, sblimit_small l.table) in
      let c : channel_in (slot_of ch sb) ≡ ch = omega arith in
      let b : subband_in (slot_of ch sb) ≡ sb = omega arith in
      ap₂ (served_by l) c b ∙ served_once l f h ch (subst T (sym t) tt)

  pub first_slot : (f : ℕ) → f < length (fields_of l) → field_serving l (slot_of (field_in (fields_of l) f).channel (field_in (fields_of l) f).subband) ≡ Some f
  first_slot f h = serves_slot f h (field_in (fields_of l) f).channel (own_channel f h)

-- ---- question 6

module _ (l : Layout) (s : SideInfo) (f slot : ℕ) (e : field_serving l slot ≡ Some f) where
  abbrev x : AllocationField
  x = field_in (fields_of l) f

  steps_of : (shared_asked s x).yes ≡ true → (k : ℕ) → field_serving l k ≡ Some f → get_or s.steps k 0 ≡ field_steps s.steps x
  steps_of y k p =
      let v = serving l f k p in
      let whole : k ≡ slot_of (channel_in k) x.subband = let q = v.subband in omega arith in
      ap (λ (j : ℕ). get_or s.steps j 0) whole ∙ same_all s.steps x (served x) y (channel_in k) v.channel

  pub shared_holds : (shared_asked s x).yes ≡ true → StepsShared l s slot
  shared_holds y g other p q =
      let same : g ≡ f = same_Some g f (sym p ∙ e) in
      steps_of y other (q ∙ ap Some same) ∙ sym (steps_of y slot e)

  pub holds_shared : StepsShared l s slot → (shared_asked s x).yes ≡ true
  holds_shared h =
      let v = serving l f slot e in
      let at : (ch : ℕ) → one_of (served x) ch ≡ true → get_or s.steps (slot_of ch x.subband) 0 ≡ get_or s.steps slot 0 =
      λ ch t. h f (slot_of ch x.subband) e (serves_slot l f v.here ch t) in
      all_same s.steps x (served x) (λ ch t. at ch t ∙ sym (at x.channel (own_channel l f v.here)))

-- ---- question 18

module _ (l : Layout) (s : SideInfo) (slot : ℕ) where
  abbrev steps : ℕ
  steps = get_or s.steps slot 0

  active_by : (v : Bool) → is_some (field_serving l slot) ≡ v → one_of (active_slots l s.steps) slot ≡ (v && not (eqb steps 0))
  active_by v e = active_is l s.steps slot ∙ ap (λ (b : Bool). b && not (eqb steps 0)) (slot_served l slot ∙ e)

  abbrev agreed : Bool
  agreed = agreeing (scfsi_in s slot) (scalefactors_in s slot)

  module _ (carries : is_some (field_serving l slot) ≡ true) where
    sharing_holds : (sharing_asked s slot).yes ≡ true → IndicesShared l s slot
    sharing_holds y active = go (eqb steps 0) (sym (active_by true carries) ∙ active) y
      where
        go : (idle : Bool) → not idle ≡ true → (idle || agreed) ≡ true → Agrees (scfsi_in s slot) (scalefactors_in s slot)
        go true n y = absurd (true≢false (sym n))
        go false n y = agreeing_true (scfsi_in s slot) (scalefactors_in s slot) y

    holds_sharing : IndicesShared l s slot → (sharing_asked s slot).yes ≡ true
    holds_sharing h = go (eqb steps 0) refl
      where
        go : (idle : Bool) → eqb steps 0 ≡ idle → (idle || agreed) ≡ true
        go true e = refl
        go false e = agrees_true (scfsi_in s slot) (scalefactors_in s slot) (h (active_by true carries ∙ ap not e))

  -- ---- the three together

  abbrev Comes : ℕ → Type 0
  Comes n = ((n ≡ 0) × SlotHolds l s slot) ⊎ FailsBy l s slot n

  outside : field_serving l slot ≡ None → Comes (number (asked_by s slot None))
  outside e = go (eqb steps 0) refl
    where
      uncarried : one_of (slots_of l) slot ≡ false
      uncarried = slot_served l slot ∙ ap is_some e

      go : (v : Bool) → eqb steps 0 ≡ v → Comes (elim v [ true ↦ 0 | false ↦ 17 ])
      go true z = inl (
        refl,
        record {
          carried = λ c. eqb-true steps 0 z;
          shared = λ f other p q. absurd (none-some f (sym e ∙ p));
          agrees = λ active. absurd (true≢false (sym active ∙ active_by false (ap is_some e)));
        },
      )
      go false z = inr (inl (refl, λ c. eqb-false steps 0 z (c uncarried)))

  within : (f : ℕ) → field_serving l slot ≡ Some f → Comes (number (asked_by s slot (Some (field_in (fields_of l) f))))
  within f e = go (shared_asked s x).yes refl (sharing_asked s slot).yes refl
    where
      x : AllocationField
      x = field_in (fields_of l) f

      carries : is_some (field_serving l slot) ≡ true
      carries = ap is_some e

      placed : StepsCarried l s slot
      placed c = absurd (true≢false (sym carries ∙ sym (slot_served l slot) ∙ c))

      go : (v : Bool) → (shared_asked s x).yes ≡ v → (w : Bool) → (sharing_asked s slot).yes ≡ w
          → Comes (elim v [ true ↦ elim w [ true ↦ 0 | false ↦ 18 ] | false ↦ 6 ])
      go false p w q = inr (inr (inl (refl, placed, λ h. true≢false (sym (holds_shared l s f slot e h) ∙ p))))
      go true p false q = inr (inr (inr (refl, placed, shared_holds l s f slot e p, λ h. true≢false (sym (holds_sharing carries h) ∙ q))))
      go true p true q = inl (refl, record { carried = placed; shared = shared_holds l s f slot e p; agrees = sharing_holds carries q })

  slot_comes : Comes (number (slot_asked l s slot))
  unfolding slot_asked
  slot_comes = go (field_serving l slot) refl
    where
      go : (o : Option ℕ) → field_serving l slot ≡ o → Comes (number (asked_by s slot (entry_at (fields_of l) o)))
      go None e = outside e
      go (Some f) e = subst (λ (y : Option AllocationField). Comes (number (asked_by s slot y))) (sym (found l f slot e)) (within f e)

  -- where the three hold, all are answered yes
  pub holds_passes : SlotHolds l s slot → number (slot_asked l s slot) ≡ 0
  holds_passes h = go slot_comes
    where
      go : {n : ℕ} → Comes n → n ≡ 0
      go (inl (e, k)) = e
      go (inr (inl (e, k))) = absurd (k h.carried)
      go (inr (inr (inl (e, k, m)))) = absurd (m h.shared)
      go (inr (inr (inr (e, k, m, o)))) = absurd (o h.agrees)

  -- a no has a number
  pub slot_refusing : T (refusing (slot_asked l s slot))
  unfolding slot_asked
  slot_refusing = go (entry_at (fields_of l) (field_serving l slot))
    where
      go : (o : Option AllocationField) → T (refusing (asked_by s slot o))
      go None = tt
      go (Some y) = tt

  -- and where all are, the three hold
  pub passes_holds : number (slot_asked l s slot) ≡ 0 → SlotHolds l s slot
  passes_holds z = go slot_comes z
    where
      go : {n : ℕ} → Comes n → n ≡ 0 → SlotHolds l s slot
      go (inl (e, k)) z = k
      go (inr (inl (e, k))) z = absurd (let q = sym e ∙ z in omega arith)
      go (inr (inr (inl (e, k, m)))) z = absurd (let q = sym e ∙ z in omega arith)
      go (inr (inr (inr (e, k, m, o)))) z = absurd (let q = sym e ∙ z in omega arith)

  -- otherwise one fails
  pub refused_fails : eqb (number (slot_asked l s slot)) 0 ≡ false → FailsBy l s slot (number (slot_asked l s slot))
  refused_fails e = go slot_comes
    where
      go : Comes (number (slot_asked l s slot)) → FailsBy l s slot (number (slot_asked l s slot))
      go (inl (z, k)) = absurd (eqb-false (number (slot_asked l s slot)) 0 e z)
      go (inr f) = f

-- ---- the two slots of a subband

-- where channel 0 has the steps of its field, channel 1 has
pub second_shared : (l : Layout) (s : SideInfo) (slot : ℕ) → channel_in slot ≡ 1 → StepsShared l s (subband_in slot) → StepsShared l s slot
second_shared l s slot one h f other p q = go (dec_lt other 32)
  where
    a : Serves l f slot
    a = serving l f slot p

    b : Serves l f other
    b = serving l f other q

    same : subband_in other ≡ subband_in slot
    same = sym b.subband ∙ a.subband

    two : channel_in other < 2
    two = channel_small l f b.here (channel_in other) (subst T (sym b.channel) tt)

    go : Dec (other < 32) → get_or s.steps other 0 ≡ get_or s.steps slot 0
    go (yes m) =
        let e : other ≡ subband_in slot = let k = same in omega arith in
        ap (λ (k : ℕ). get_or s.steps k 0) e ∙ sym (h f slot (ap (field_serving l) (sym e) ∙ q) p)
    go (no m) = let e : other ≡ slot = let k = same in let t = two in omega arith in ap (λ (k : ℕ). get_or s.steps k 0) e
