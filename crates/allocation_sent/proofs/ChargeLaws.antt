-- What the fields' slots and samples come to is at most what the rounds charged, whatever the first steps cost, where each covers what the
-- field's slots send.
use mathlib.Core.Path.{◌≡◌, refl, sym, ap, ap₂, ◌∙◌, subst}
use mathlib.Core.Bool.{Bool, true, false, cond}
use mathlib.Core.List.{List, [], ◌∷◌, map}
use Prim.Native.Nat.{ℕ, zero, suc, ◌+◌, ◌*◌, ◌≤◌, ◌<◌}
use native.Mathlib.Nat.{le_refl, zero-add}
use native.Mathlib.Omega.{arith}
use lib.Dec.{T, eqb, lit≤}
use lib.Ieee.{Float}
use lib.ListN.{length, get_or, take, length-map}
use lib.Seq.{take_all}
use borrow.Author.Tests.{eq-eqb, eqb-true}
use Rattle.tables.specs.Search.{one_of}
use Rattle.quantization.specs.Classes.{sample_bits}
use Rattle.layout.specs.declared.Layout.{Layout}
use Rattle.layout.specs.declared.AllocationField.{AllocationField}
use Rattle.layout.specs.Slots.{slot_of}
use Rattle.layout.specs.Layout.{served, fields_of, field_in, field_steps, slots_in, slots_of, sum_over}
use Rattle.layout.proofs.SumLaws.{sum_append, one_more}
use Rattle.allocation_rounds.specs.Rounds.{place_in}
use Rattle.allocation_rounds.specs.Promises.{charged}
use Rattle.allocation_run.specs.Entries.{Entry, charge, charge_at, rules_of, entries_of}
use Rattle.allocation_run.proofs.LaidLaws.{entries_count, entry_at}
use Rattle.allocation_worth.specs.Worth.{places_from, Worth}
use Rattle.allocation_worth.proofs.WorthLaws.{one_of_head, one_of_tail}
use Rattle.side_info.specs.declared.SideInfo.{SideInfo}
use Rattle.side_info.specs.SideInfo.{active_among, active_slots, slot_count}
use Rattle.side_info.proofs.CountLaws.{slot_most}
use Rattle.side_info.proofs.FlatLaws.{sum_sum, sum_most}

-- what a slot sends, active or not
abbrev sending : SideInfo → ℕ → ℕ
sending r slot = cond (eqb (get_or r.steps slot 0) 0) 0 (slot_count r slot)

active_sum : (r : SideInfo) (slots : List ℕ) → sum_over (slot_count r) (active_among r.steps slots) ≡ sum_over (sending r) slots
active_sum r [] = refl
active_sum r (slot ∷ slots) = go (eqb (get_or r.steps slot 0) 0) (active_sum r slots)
  where
    go : (b : Bool) → sum_over (slot_count r) (active_among r.steps slots) ≡ sum_over (sending r) slots
        → sum_over (slot_count r) (cond b (active_among r.steps slots) (slot ∷ active_among r.steps slots)) ≡ cond b 0 (slot_count r slot) + sum_over (sending r) slots
    go true h = h ∙ sym (zero-add (sum_over (sending r) slots))
    go false h = ap (λ (n : ℕ). slot_count r slot + n) h

sending_most : (r : SideInfo) (slot : ℕ) → sending r slot ≤ 20
sending_most r slot = go (eqb (get_or r.steps slot 0) 0)
  where
    go : (b : Bool) → cond b 0 (slot_count r slot) ≤ 20
    go true = lit≤ tt
    go false = slot_most r slot

-- what the slots of a field send
abbrev pub served_count : SideInfo → AllocationField → ℕ
served_count r x = sum_over (sending r) (map (λ ch. slot_of ch x.subband) (served x))

-- slot by slot is field by field
by_field : (r : SideInfo) (xs : List AllocationField) → sum_over (sending r) (slots_in xs) ≡ sum_over (served_count r) xs
by_field r [] = refl
by_field r (x ∷ xs) =
    sum_append (sending r) (map (λ ch. slot_of ch x.subband) (served x)) (slots_in xs) ∙ ap (λ (n : ℕ). served_count r x + n) (by_field r xs)

-- idle slots send nothing
idle_count : (r : SideInfo) (sb : ℕ) (chs : List ℕ) → ((ch : ℕ) → T (one_of chs ch) → get_or r.steps (slot_of ch sb) 0 ≡ 0)
    → sum_over (sending r) (map (λ ch. slot_of ch sb) chs) ≡ 0
idle_count r sb [] h = refl
idle_count r sb (ch ∷ chs) h =
    ap₂ ◌+◌ (none (h ch (one_of_head ch chs))) (idle_count r sb chs (λ c t. h c (one_of_tail ch c chs t)))
  where
    none : get_or r.steps (slot_of ch sb) 0 ≡ 0 → sending r (slot_of ch sb) ≡ 0
    none e = rw (eq-eqb (get_or r.steps (slot_of ch sb) 0) 0 e)

no_samples : sample_bits 0 ≡ 0
unfolding sample_bits
no_samples = refl

-- the worst case covers what the slots send
pub worst_covers : (r : SideInfo) (x : AllocationField) → served_count r x ≤ 20 * length (served x)
worst_covers r x =
    let slots = map (λ ch. slot_of ch x.subband) (served x) in
    subst (λ (n : ℕ). served_count r x ≤ 20 * n) (length-map (served x) (λ ch. slot_of ch x.subband)) (sum_most (sending r) 20 (sending_most r) slots)

module _ (l : Layout) (smr : List (List Float)) (costs : List ℕ) (offered left : ℕ) (r : SideInfo) (w : Worth l smr costs offered r.steps left) where
  abbrev fields : List AllocationField
  fields = fields_of l

  abbrev held : AllocationField → ℕ
  held x = field_steps r.steps x

  -- a field's slots and samples
  abbrev pub field_sent : AllocationField → ℕ
  field_sent x = served_count r x + sample_bits (held x)

  module _ (covers : (f : ℕ) → f < length (fields_of l) → served_count r (field_in (fields_of l) f) ≤ get_or costs f 0) where
    field_covered : (f : ℕ) → f < length fields → field_sent (field_in fields f) ≤ charge (held (field_in fields f)) (get_or costs f 0)
    field_covered f h = go (eqb (held x) 0) refl
      where
        x : AllocationField
        x = field_in (fields_of l) f

        go : (b : Bool) → eqb (held x) 0 ≡ b → field_sent x ≤ cond b 0 (sample_bits (held x) + get_or costs f 0)
        go true e =
            let z : held x ≡ 0 = eqb-true (held x) 0 e in
            let a = idle_count r x.subband (served x) (λ ch t. w.both f ch h t ∙ z) in
            let b : sample_bits (held x) ≡ 0 = ap sample_bits z ∙ no_samples in
            omega arith
        go false e = let c = covers f h in omega arith

    -- field by field
    charge_is : (f : ℕ) → f < length fields
        → (rules_of (entries_of l smr costs)).charge f (place_in (places_from l r.steps) f) ≡ charge (held (field_in fields f)) (get_or costs f 0)
    unfolding rules_of
    charge_is f h =
        ap (λ (e : Entry). charge_at e (place_in (places_from l r.steps) f)) (entry_at l smr costs f h)
        ∙ ap (λ (n : ℕ). charge n (get_or costs f 0)) (w.in_row f h)

    so_far : (n : ℕ) → n ≤ length fields → sum_over field_sent (take n fields) ≤ charged (rules_of (entries_of l smr costs)) (places_from l r.steps) n
    unfolding charged
    so_far zero h = lit≤ tt
    so_far (suc n) h =
        let m : n < length fields = h in
        let a = one_more field_sent fields n m in
        let b = so_far n (omega arith) in
        let c = field_covered n m in
        let d = charge_is n m in
        omega arith

    -- slots and samples fit what was offered
    pub sent_fits : sum_over (slot_count r) (active_slots l r.steps) + sum_over (λ x. sample_bits (held x)) fields ≤ offered
    unfolding active_slots slots_of rules_of
    sent_fits =
        let n = length fields in
        let a = active_sum r (slots_of l) ∙ by_field r fields in
        let b = sum_sum (served_count r) (λ x. sample_bits (held x)) field_sent (λ x. refl) fields in
        let c = so_far n (le_refl n) in
        let d = ap (sum_over field_sent) (take_all n fields (le_refl n)) in
        let e : charged (rules_of (entries_of l smr costs)) (places_from l r.steps) n + left ≡ offered =
        subst (λ (k : ℕ). charged (rules_of (entries_of l smr costs)) (places_from l r.steps) k + left ≡ offered) (entries_count l smr costs) w.accounted in
        omega arith
