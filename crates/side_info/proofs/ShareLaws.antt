-- Question 6 of a field, from the steps of its subband in either channel and slot by slot.
use mathlib.Core.Path.{◌≡◌, refl, sym, ap, ap₂, ◌∙◌}
use mathlib.Core.Bool.{Bool, true, false, cond, ◌&&◌, ◌||◌, and-true, true≢false}
use mathlib.Core.List.{List, [], ◌∷◌}
use Prim.Native.Nat.{ℕ, zero, suc, ◌+◌, ◌<◌}
use native.Mathlib.Nat.{zero-add}
use native.Mathlib.Omega.{arith}
use lib.Dec.{eqb}
use lib.ListN.{get_or}
use borrow.Author.Tests.{eqb-true, eqb-false, eq-eqb, ne_eqb}
use Rattle.tables.specs.Search.{one_of}
use Rattle.layout.specs.declared.AllocationField.{AllocationField}
use Rattle.layout.specs.Slots.{slot_of}
use Rattle.layout.specs.Layout.{field_steps}
use Rattle.side_info.specs.declared.SideInfo.{SideInfo}
use Rattle.side_info.specs.SideInfo.{same_steps, shared_asked}
use Rattle.side_info.proofs.ListLaws.{has_first, has_more}

-- ---- from both channels

same : (n : ℕ) → eqb n n ≡ true
same n = eq-eqb n n refl

turned : (a b : ℕ) → eqb a b ≡ eqb b a
turned a b = go (eqb a b) refl
  where
    go : (v : Bool) → eqb a b ≡ v → v ≡ eqb b a
    go true e = sym (eq-eqb b a (sym (eqb-true a b e)))
    go false e = sym (ne_eqb b a (λ q. eqb-false a b e (sym q)))

-- of a field's channel and whether it serves both
shared_by : (steps : List ℕ) (sb ch : ℕ) (two : Bool) → ch < 2
    → cond two (eqb (get_or steps (32 + sb) 0) (get_or steps sb 0)) true
    ≡ same_steps steps (record { subband = sb; channel = ch; both = two }) (cond two (0 ∷ 1 ∷ []) (ch ∷ []))
shared_by steps sb ch false h = rw (same (get_or steps (slot_of ch sb) 0))
shared_by steps sb zero true h =
    let a = get_or steps (slot_of 0 sb) 0 in
    let b = get_or steps (slot_of 1 sb) 0 in
    ap (λ (k : ℕ). eqb b (get_or steps k 0)) (sym (zero-add sb)) ∙ sym (ap₂ ◌&&◌ (same a) (and-true (eqb b a)))
shared_by steps sb (suc zero) true h =
    let a = get_or steps (slot_of 0 sb) 0 in
    let b = get_or steps (slot_of 1 sb) 0 in
    ap (λ (k : ℕ). eqb b (get_or steps k 0)) (sym (zero-add sb)) ∙ turned b a ∙ sym (ap (λ (t : Bool). eqb a b && t) (and-true (eqb b b) ∙ same b) ∙ and-true (eqb a b))
shared_by steps sb (suc (suc ch)) true h = absurd (omega arith)

pub shared_is : (r : SideInfo) (x : AllocationField) → x.channel < 2
    → cond x.both (eqb (get_or r.steps (32 + x.subband) 0) (get_or r.steps x.subband 0)) true ≡ (shared_asked r x).yes
shared_is r x h = shared_by r.steps x.subband x.channel x.both h

-- ---- slot by slot, both ways

module _ (steps : List ℕ) (x : AllocationField) where
  pub all_same : (chs : List ℕ) → ((ch : ℕ) → one_of chs ch ≡ true → get_or steps (slot_of ch x.subband) 0 ≡ field_steps steps x) → same_steps steps x chs ≡ true
  all_same [] h = refl
  all_same (ch ∷ chs) h =
      ap₂ ◌&&◌ (eq-eqb (get_or steps (slot_of ch x.subband) 0) (field_steps steps x) (h ch (has_first ch chs)))
      (all_same chs (λ c t. h c (has_more c ch chs t)))

  pub same_all : (chs : List ℕ) → same_steps steps x chs ≡ true → (ch : ℕ) → one_of chs ch ≡ true → get_or steps (slot_of ch x.subband) 0 ≡ field_steps steps x
  unfolding one_of
  same_all [] e ch t = absurd (true≢false (sym t))
  same_all (c ∷ chs) e ch t = go (eqb (get_or steps (slot_of c x.subband) 0) (field_steps steps x)) refl e (eqb ch c) refl t (λ rest. same_all chs rest ch)
    where
      go : (v : Bool) → eqb (get_or steps (slot_of c x.subband) 0) (field_steps steps x) ≡ v → (v && same_steps steps x chs) ≡ true
          → (here : Bool) → eqb ch c ≡ here → (here || one_of chs ch) ≡ true
          → (same_steps steps x chs ≡ true → one_of chs ch ≡ true → get_or steps (slot_of ch x.subband) 0 ≡ field_steps steps x)
          → get_or steps (slot_of ch x.subband) 0 ≡ field_steps steps x
      go false p e here q t ih = absurd (true≢false (sym e))
      go true p e true q t ih = ap (λ (k : ℕ). get_or steps (slot_of k x.subband) 0) (eqb-true ch c q) ∙ eqb-true _ _ p
      go true p e false q t ih = ih e t
