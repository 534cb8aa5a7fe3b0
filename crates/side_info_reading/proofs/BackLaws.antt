-- What is written comes back: reading the bits of a record that the writer accepts and that can be restored gives the record, whatever stands behind them.
use mathlib.Core.Path.{◌≡◌, refl, sym, ap, ◌∙◌, subst}
use mathlib.Core.Bool.{Bool, true, false}
use mathlib.Core.List.{List, ◌++◌, append_assoc, flat_map}
use mathlib.Core.Logic.{◌⊎◌, inl, inr}
use Prim.Native.Nat.{ℕ, zero, suc, ◌+◌, ◌*◌, ◌/◌, ◌%◌, ◌<◌}
use native.Mathlib.Omega.{arith}
use lib.ListN.{get_or, replicate, length-replicate}
use Rattle.tables.specs.Search.{one_of}
use Rattle.tables.proofs.Listed.{blank}
use Rattle.layout.specs.declared.Layout.{Layout}
use Rattle.layout.specs.declared.AllocationField.{AllocationField}
use Rattle.layout.specs.Layout.{served, fields_of, field_steps, slots_of}
use Rattle.audio_data.specs.Scfsi.{Three, three}
use Rattle.side_info.specs.declared.SideInfo.{SideInfo}
use Rattle.side_info.specs.SideInfo.{side_info, scfsi_in, scalefactors_in, active_slots, allocation_field_bits, scfsi_bits, scalefactor_bits, side_info_bits, tabled, idle_scfsi}
use Rattle.side_info_reading.specs.Taken.{got}
use Rattle.side_info_reading.specs.Reading.{field_taken, scfsi_taken, three_taken, in_slots, in_slot, in_granules, nothing, allocation_taken, scfsis_taken, scalefactors_taken, with_scfsi, with_steps, side_info_taken}
use Rattle.side_info_reading.specs.Read.{Restorable}
use Rattle.side_info.proofs.ListLaws.{Each, each_map, each_both, each_one, each_of, flat_each}
use Rattle.side_info_reading.proofs.TakenLaws.{then_got, Sent, each_back}
use Rattle.side_info.proofs.AskedLaws.{FieldYes, RecordYes}
use Rattle.side_info_reading.proofs.SlotLaws.{Field, each_field, slots_for, field_slots_small, slots_of_fields, active_below, active_slot, alone, three_places, three_of}
use Rattle.side_info_reading.proofs.PartLaws.{field_sent_lem, same_held, steps_placed, scfsi_sent, three_sent}

-- where the places are the slots that a list has, elsewhere the target is blank
or_else : {C : Type 0} (d : C) (n : ℕ) (target : List C) (places ks : List ℕ) → places ≡ ks → ((k : ℕ) → one_of ks k ≡ false → get_or target k d ≡ d)
    → (k : ℕ) → (one_of places k ≡ true) ⊎ (get_or (replicate n d) k d ≡ get_or target k d)
or_else d n target places ks e idle k = go (one_of places k) refl
  where
    go : (b : Bool) → one_of places k ≡ b → (one_of places k ≡ true) ⊎ (get_or (replicate n d) k d ≡ get_or target k d)
    go true q = inl q
    go false q = inr (blank n d k ∙ sym (idle k (ap (λ (p : List ℕ). one_of p k) (sym e) ∙ q)))

module _ (l : Layout) (r : SideInfo) (whole : Restorable l r) (yes : RecordYes l r) where
  abbrev active : List ℕ
  active = active_slots l r.steps

  -- ---- the allocation

  field_back : (x : AllocationField) → Field l x × FieldYes l r x → Sent (field_taken l) in_slots 0 (field_steps r.steps) (allocation_field_bits l r) r.steps x
  field_back x f = record {
    taken = λ rest. field_sent_lem l x f.0 (field_steps r.steps x) rest f.1.row;
    held = same_held r.steps x (served x) (subst (λ (n : ℕ). Each (λ k. k < n) (slots_for x)) (sym whole.steps_long) (field_slots_small l x f.0)) f.1.shared;
  }

  pub allocation_back : (rest : List Bool) → allocation_taken l (flat_map (allocation_field_bits l r) (fields_of l) ++ rest) ≡ got r.steps rest
  unfolding nothing
  allocation_back rest =
      each_back (field_taken l) in_slots 0 (field_steps r.steps) (allocation_field_bits l r) (fields_of l) (replicate 64 0) r.steps rest
      (each_map _ _ field_back (fields_of l) (each_both (Field l) (FieldYes l r) (fields_of l) (each_field l) yes.fields))
      (length-replicate {A = ℕ} 64 0 ∙ sym whole.steps_long)
      (or_else 0 64 r.steps _ (slots_of l)
      (flat_each _ slots_for (fields_of l) (each_map (Field l) _ (λ x f. steps_placed x (field_steps r.steps x)) (fields_of l) (each_field l)) ∙ slots_of_fields l) whole.outside)

  -- ---- the scfsi

  pub scfsi_back : (rest : List Bool) → scfsis_taken active (flat_map (scfsi_bits r) active ++ rest) ≡ got r.scfsi rest
  unfolding nothing
  scfsi_back rest =
      each_back scfsi_taken in_slot idle_scfsi (λ slot. get_or r.scfsi slot idle_scfsi) (scfsi_bits r) active (replicate 64 idle_scfsi) r.scfsi rest
      (each_map _ (Sent scfsi_taken in_slot idle_scfsi (λ slot. get_or r.scfsi slot idle_scfsi) (scfsi_bits r) r.scfsi)
      (λ slot h. record { taken = scfsi_sent slot (get_or r.scfsi slot idle_scfsi); held = ((rw whole.scfsi_long h, refl), tt) })
      active (active_below l r.steps))
      (length-replicate 64 idle_scfsi ∙ sym whole.scfsi_long)
      (or_else idle_scfsi 64 r.scfsi _ active (alone active) (λ k e. (whole.idle k e).0))

  -- ---- the scalefactors

  abbrev SlotSent : ℕ → Type 0
  SlotSent = Sent (λ slot. three_taken (scfsi_in r slot)) in_granules 0 (scalefactors_in r) (scalefactor_bits r) r.scalefactors

  idle_index : (k : ℕ) → one_of (flat_map three_places active) k ≡ false → get_or r.scalefactors k 0 ≡ 0
  idle_index k e =
      let i : scalefactors_in r (k / 3) ≡ three 0 0 0 = (whole.idle (k / 3) (sym (three_of k active) ∙ e)).1 in
      go (k % 3) refl i
    where
      at : (j : ℕ) → k ≡ j → get_or r.scalefactors k 0 ≡ get_or r.scalefactors j 0
      at j q = ap (λ (m : ℕ). get_or r.scalefactors m 0) q

      go : (part : ℕ) → k % 3 ≡ part → scalefactors_in r (k / 3) ≡ three 0 0 0 → get_or r.scalefactors k 0 ≡ 0
      go zero q i = at (3 * (k / 3)) (omega arith) ∙ ap (λ (t : Three). t.first) i
      go (suc zero) q i = at (3 * (k / 3) + 1) (omega arith) ∙ ap (λ (t : Three). t.second) i
      go (suc (suc zero)) q i = at (3 * (k / 3) + 2) (omega arith) ∙ ap (λ (t : Three). t.third) i
      go (suc (suc (suc part))) q i = absurd (omega arith)

  pub scalefactors_back : (rest : List Bool) → scalefactors_taken r.scfsi active (flat_map (scalefactor_bits r) active ++ rest) ≡ got r.scalefactors rest
  unfolding nothing
  scalefactors_back rest =
      each_back (λ slot. three_taken (scfsi_in r slot)) in_granules 0 (scalefactors_in r) (scalefactor_bits r) active (replicate 192 0) r.scalefactors rest
      (each_of SlotSent active (λ slot has.
      let small = active_slot l r.steps slot has in
      record {
        taken = λ rest. three_sent (scfsi_in r slot) (scalefactors_in r slot) rest
            (each_one (λ k. tabled (scalefactors_in r k) ≡ true) active slot yes.slots has) (whole.agrees slot has);
        held =
            let n = whole.scalefactors_long in
            ((omega arith, refl), ((omega arith, refl), ((omega arith, refl), tt)));
      }))
      (length-replicate {A = ℕ} 192 0 ∙ sym whole.scalefactors_long)
      (or_else 0 192 r.scalefactors _ (flat_map three_places active) refl idle_index)

  -- ---- the whole

  pub comes_back : (rest : List Bool) → side_info_taken l (side_info_bits l r ++ rest) ≡ got r rest
  unfolding side_info_taken side_info_bits
  comes_back rest =
      let fields = flat_map (allocation_field_bits l r) (fields_of l) in
      let scfsis = flat_map (scfsi_bits r) active in
      let indices = flat_map (scalefactor_bits r) active in
      ap (side_info_taken l) (append_assoc fields (scfsis ++ indices) rest)
      ∙ then_got (with_steps l) (allocation_taken l (fields ++ (scfsis ++ indices ++ rest))) r.steps (scfsis ++ indices ++ rest) (allocation_back (scfsis ++ indices ++ rest))
      ∙ ap (with_steps l r.steps) (append_assoc scfsis indices rest)
      ∙ then_got (with_scfsi l r.steps) (scfsis_taken active (scfsis ++ (indices ++ rest))) r.scfsi (indices ++ rest) (scfsi_back (indices ++ rest))
      ∙ then_got (λ scalefactors. got (side_info r.steps r.scfsi scalefactors)) (scalefactors_taken r.scfsi active (indices ++ rest)) r.scalefactors rest (scalefactors_back rest)
