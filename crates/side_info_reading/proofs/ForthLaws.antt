-- What is read was written: its bits are those of the record, the writer accepts the record, and it can be restored.
use mathlib.Core.Path.{◌≡◌, refl, sym, ap, ◌∙◌, subst}
use mathlib.Core.Bool.{Bool, false}
use mathlib.Core.List.{List, [], ◌∷◌, ◌++◌, append_assoc, flat_map}
use Prim.Native.Nat.{ℕ, ◌+◌, ◌*◌, ◌/◌, ◌<◌}
use native.Mathlib.Omega.{arith}
use lib.ListN.{get_or, replicate, length-replicate}
use Rattle.tables.specs.Search.{one_of}
use Rattle.tables.proofs.Listed.{blank}
use Rattle.layout.specs.declared.Layout.{Layout}
use Rattle.layout.specs.Layout.{served, fields_of, field_steps}
use Rattle.audio_data.specs.declared.Scfsi.{Scfsi}
use Rattle.audio_data.specs.Scfsi.{Three, three}
use Rattle.side_info.specs.declared.SideInfo.{SideInfo}
use Rattle.side_info.specs.SideInfo.{side_info, active_slots, allocation_field_bits, scfsi_bits, scalefactor_bits, side_info_bits, idle_scfsi}
use Rattle.side_info_reading.specs.Taken.{got}
use Rattle.side_info_reading.specs.Reading.{field_taken, scfsi_taken, three_taken, in_slots, in_slot, in_granules, nothing, allocation_taken, scfsis_taken, scalefactors_taken, with_scfsi, with_steps, side_info_taken}
use Rattle.side_info_reading.specs.Read.{Restorable}
use Rattle.side_info.proofs.ListLaws.{Each, each_map, each_one, Distinct}
use Rattle.side_info_reading.proofs.LaidLaws.{Held}
use Rattle.side_info_reading.proofs.TakenLaws.{same_value, same_rest, between, Forth, each_forth}
use Rattle.side_info.proofs.AskedLaws.{RecordYes}
use Rattle.side_info_reading.proofs.SlotLaws.{Field, each_field, slots_for, slots_of_fields, slots_different, slots_small, active_distinct, active_below, alone, three_places, three_of, three_distinct, three_below}
use Rattle.side_info_reading.proofs.PartLaws.{field_wire, InRow, field_took, field_value, steps_placed, held_same, scfsi_wire, scfsi_took, three_wire, ThreeIn, three_took}

-- ---- the allocation

abbrev FieldsForth : Layout → List Bool → List ℕ → List Bool → Type 0
FieldsForth l bits steps rest =
    Forth (field_taken l) in_slots 0 slots_for steps_placed (field_wire l) (Field l) (InRow l) (field_took l) field_steps (λ cells x f. field_value l x f cells)
    (fields_of l) (replicate 64 0) bits steps rest

allocation_forth : (l : Layout) (bits : List Bool) (steps : List ℕ) (rest : List Bool) → allocation_taken l bits ≡ got steps rest → FieldsForth l bits steps rest
unfolding nothing
allocation_forth l bits steps rest e =
    let slots = slots_of_fields l in
    each_forth (field_taken l) in_slots 0 slots_for steps_placed (field_wire l) (Field l) (InRow l) (field_took l) field_steps (λ cells x f. field_value l x f cells)
    (fields_of l) (replicate 64 0) bits steps rest e (each_field l) (subst Distinct (sym slots) (slots_different l))
    (subst (λ (n : ℕ). Each (λ k. k < n) (flat_map slots_for (fields_of l))) (sym (length-replicate {A = ℕ} 64 0)) (subst (Each (λ k. k < 64)) (sym slots) (slots_small l)))

-- ---- the scfsi

-- what a slot is asked for: nothing
abbrev Any : ℕ → Type 0
Any slot = Unit {0}

each_any : (slots : List ℕ) → Each Any slots
each_any [] = tt
each_any (s ∷ slots) = (tt, each_any slots)

abbrev ScfsiForth : List ℕ → List Bool → List Scfsi → List Bool → Type 0
ScfsiForth slots bits scfsi rest =
    Forth scfsi_taken in_slot idle_scfsi (λ slot. slot ∷ []) (λ slot s. refl) (λ slot. scfsi_wire) Any (λ slot s. Unit {0})
    (λ slot able bits s rest e. (scfsi_took slot bits s rest e, tt)) (λ cells slot. get_or cells slot idle_scfsi) (λ cells slot able s h. h.0.1)
    slots (replicate 64 idle_scfsi) bits scfsi rest

module _ (slots : List ℕ) (different : Distinct slots) (small : Each (λ k. k < 64) slots) where
  scfsi_forth : (bits : List Bool) (scfsi : List Scfsi) (rest : List Bool) → scfsis_taken slots bits ≡ got scfsi rest → ScfsiForth slots bits scfsi rest
  unfolding nothing
  scfsi_forth bits scfsi rest e =
      each_forth scfsi_taken in_slot idle_scfsi (λ slot. slot ∷ []) (λ slot s. refl) (λ slot. scfsi_wire) Any (λ slot s. Unit {0})
      (λ slot able bits s rest e. (scfsi_took slot bits s rest e, tt)) (λ cells slot. get_or cells slot idle_scfsi) (λ cells slot able s h. h.0.1)
      slots (replicate 64 idle_scfsi) bits scfsi rest e (each_any slots) (subst Distinct (sym (alone slots)) different)
      (subst (λ (n : ℕ). Each (λ k. k < n) (flat_map (λ s. s ∷ []) slots)) (sym (length-replicate 64 idle_scfsi)) (subst (Each (λ k. k < 64)) (sym (alone slots)) small))

  -- ---- the scalefactors

  module _ (scfsi : List Scfsi) where
    abbrev scfsi_of : ℕ → Scfsi
    scfsi_of slot = get_or scfsi slot idle_scfsi

    abbrev three_in : List ℕ → ℕ → Three
    three_in cells slot = three (get_or cells (3 * slot) 0) (get_or cells (3 * slot + 1) 0) (get_or cells (3 * slot + 2) 0)

    three_value : (cells : List ℕ) (slot : ℕ) → Any slot → (t : Three) → Held 0 cells (in_granules slot t) → three_in cells slot ≡ t
    three_value cells slot able t h = λ i. three (h.0.1 i) (h.1.0.1 i) (h.1.1.0.1 i)

    abbrev ScalefactorsForth : List Bool → List ℕ → List Bool → Type 0
    ScalefactorsForth bits scalefactors rest =
        Forth (λ slot. three_taken (scfsi_of slot)) in_granules 0 three_places (λ slot t. refl) (λ slot. three_wire (scfsi_of slot)) Any (λ slot. ThreeIn (scfsi_of slot))
        (λ slot able. three_took (scfsi_of slot)) three_in three_value slots (replicate 192 0) bits scalefactors rest

    scalefactors_forth : (bits : List Bool) (scalefactors : List ℕ) (rest : List Bool) → scalefactors_taken scfsi slots bits ≡ got scalefactors rest
        → ScalefactorsForth bits scalefactors rest
    unfolding nothing
    scalefactors_forth bits scalefactors rest e =
        each_forth (λ slot. three_taken (scfsi_of slot)) in_granules 0 three_places (λ slot t. refl) (λ slot. three_wire (scfsi_of slot)) Any (λ slot. ThreeIn (scfsi_of slot))
        (λ slot able. three_took (scfsi_of slot)) three_in three_value slots (replicate 192 0) bits scalefactors rest e (each_any slots) (three_distinct slots different)
        (subst (λ (n : ℕ). Each (λ k. k < n) (flat_map three_places slots)) (sym (length-replicate {A = ℕ} 192 0)) (three_below slots small))

-- ---- the whole

pub record WasWritten (l : Layout) (bits : List Bool) (r : SideInfo) (rest : List Bool) : Type 0 where
  pub sent : bits ≡ side_info_bits l r ++ rest
  pub yes : RecordYes l r
  pub whole : Restorable l r

module _ (l : Layout) (bits behind_fields behind_scfsi rest : List Bool) (steps : List ℕ) (scfsi : List Scfsi) (scalefactors : List ℕ) where
  abbrev r : SideInfo
  r = side_info steps scfsi scalefactors

  abbrev active : List ℕ
  active = active_slots l steps

  module _ (f : FieldsForth l bits steps behind_fields) (s : ScfsiForth active behind_fields scfsi behind_scfsi)
      (c : ScalefactorsForth active (active_distinct l steps) (active_below l steps) scfsi behind_scfsi scalefactors rest) where
    all_sent : bits ≡ side_info_bits l r ++ rest
    unfolding side_info_bits
    all_sent =
        let fields = flat_map (allocation_field_bits l r) (fields_of l) in
        let scfsis = flat_map (scfsi_bits r) active in
        let indices = flat_map (scalefactor_bits r) active in
        f.sent ∙ ap (λ (bs : List Bool). fields ++ bs) (s.sent ∙ ap (λ (bs : List Bool). scfsis ++ bs) c.sent ∙ sym (append_assoc scfsis indices rest))
        ∙ sym (append_assoc fields (scfsis ++ indices) rest)

    each_yes : RecordYes l r
    each_yes = record {
      fields = each_map _ _ (λ x g. record { shared = held_same steps x (served x) g.held; row = g.kept }) (fields_of l) f.found;
      slots = each_map _ _ (λ slot g. g.kept.tabled) active c.found;
    }

    no_index : (slot : ℕ) → one_of active slot ≡ false → (k : ℕ) → k / 3 ≡ slot → get_or scalefactors k 0 ≡ 0
    no_index slot e k q = c.elsewhere k (three_of k active ∙ ap (one_of active) q ∙ e) ∙ blank 192 0 k

    all_whole : Restorable l r
    all_whole = record {
      steps_long = f.long ∙ length-replicate {A = ℕ} 64 0;
      scfsi_long = s.long ∙ length-replicate 64 idle_scfsi;
      scalefactors_long = c.long ∙ length-replicate {A = ℕ} 192 0;
      agrees = λ slot e. each_one (λ k. _) active slot (each_map _ _ (λ slot g. g.kept.agrees) active c.found) e;
      idle = λ slot e. (
        s.elsewhere slot (ap (λ (ks : List ℕ). one_of ks slot) (alone active) ∙ e) ∙ blank 64 idle_scfsi slot,
        λ i. three (no_index slot e (3 * slot) (omega arith) i) (no_index slot e (3 * slot + 1) (omega arith) i) (no_index slot e (3 * slot + 2) (omega arith) i),
      );
      outside = λ slot e. f.elsewhere slot (ap (λ (ks : List ℕ). one_of ks slot) (slots_of_fields l) ∙ e) ∙ blank 64 0 slot;
    }

    was_written : WasWritten l bits r rest
    was_written = record { sent = all_sent; yes = each_yes; whole = all_whole }

was_got : (l : Layout) (bits : List Bool) (r : SideInfo) (rest : List Bool) (s : SideInfo) (more : List Bool) → got s more ≡ got r rest
    → WasWritten l bits s more → WasWritten l bits r rest
was_got l bits r rest s more e w =
    subst (λ (t : SideInfo). WasWritten l bits t rest) (same_value e) (subst (WasWritten l bits s) (same_rest e) w)

pub read_was_written : (l : Layout) (bits : List Bool) (r : SideInfo) (rest : List Bool) → side_info_taken l bits ≡ got r rest → WasWritten l bits r rest
unfolding side_info_taken
read_was_written l bits r rest e =
    let a = between (with_steps l) (allocation_taken l bits) r rest e in
    let slots = active_slots l a.value in
    let b = between (with_scfsi l a.value) (scfsis_taken slots a.rest) r rest a.second in
    let c = between (λ scalefactors. got (side_info a.value b.value scalefactors)) (scalefactors_taken b.value slots b.rest) r rest b.second in
    let d = active_distinct l a.value in
    let small = active_below l a.value in
    was_got l bits r rest (side_info a.value b.value c.value) c.rest c.second
    (was_written l bits a.rest b.rest c.rest a.value b.value c.value
    (allocation_forth l bits a.value a.rest a.first) (scfsi_forth slots d small a.rest b.value b.rest b.first)
    (scalefactors_forth slots d small b.value b.rest c.value c.rest c.first))
