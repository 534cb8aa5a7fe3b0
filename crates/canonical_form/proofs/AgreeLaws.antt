-- Records that agree where the writer looks are written alike: the steps of every slot, and the scfsi and indices of the active ones.
use Rattle.std.specs.Prelude.{is_some}
use mathlib.Core.Path.{◌≡◌, refl, sym, ap, ap₂, ◌∙◌}
use mathlib.Core.Bool.{Bool, true, false, cond, ◌&&◌}
use mathlib.Core.List.{List, [], ◌∷◌, ◌++◌, map, flat_map}
use Prim.Native.Nat.{ℕ, ◌<◌}
use native.Mathlib.Omega.{arith}
use lib.Dec.{eqb, lit<}
use lib.ListN.{get_or}
use Rattle.tables.specs.Search.{one_of}
use Rattle.tables.proofs.Listed.{tabulated}
use Rattle.header.specs.declared.FrameHeader.{FrameHeader}
use Rattle.header.specs.Questions.{Question, number}
use Rattle.encoder_bit_budget.specs.Budget.{header_asked}
use Rattle.bitalloc.specs.Options.{or_zero}
use Rattle.bitalloc.specs.Tables.{nbal_of, index_of}
use Rattle.bitalloc.proofs.RowLaws.{sblimit_small}
use Rattle.layout.specs.declared.Layout.{Layout}
use Rattle.layout.specs.declared.AllocationField.{AllocationField}
use Rattle.layout.specs.Slots.{slot_of}
use Rattle.layout.specs.Layout.{served, fields_of, field_steps, slots_of}
use Rattle.audio_data.specs.declared.Scfsi.{Scfsi}
use Rattle.audio_data.specs.Scfsi.{Three, code_of, sent}
use Rattle.bit_string.specs.Bits.{bits_of}
use Rattle.side_info.specs.declared.SideInfo.{SideInfo}
use Rattle.side_info.specs.SideInfo.{idle_scfsi, scfsi_in, scalefactors_in, header_layout, active_among, active_slots, allocation_field_bits, scfsi_bits, scalefactor_bits, side_info_bits, same_steps, field_asked, tabled, scalefactor_asked, record_asked}
use Rattle.side_info.proofs.ListLaws.{Each, each_map, each_of, flat_each, map_each}
use Rattle.side_info_writer.specs.Written.{written, where_zero, written_of}
use Rattle.side_info_reading.proofs.SlotLaws.{Field, each_field, slots_small, active_slot}
use Rattle.canonical_form.specs.Fewest.{fewest_scfsi, chosen, canonical}
use Rattle.canonical_form.specs.Canonical.{SaysTheSame}

-- ---- steps that agree

abbrev SameAt : List ℕ → List ℕ → ℕ → Type 0
SameAt steps others slot = get_or steps slot 0 ≡ get_or others slot 0

among_same : (steps others slots : List ℕ) → Each (SameAt steps others) slots → active_among steps slots ≡ active_among others slots
among_same steps others [] e = refl
among_same steps others (slot ∷ slots) e =
    ap₂ (λ (n : ℕ) (rest : List ℕ). cond (eqb n 0) rest (slot ∷ rest)) e.0 (among_same steps others slots e.1)

module _ (l : Layout) (steps others : List ℕ) (same : (slot : ℕ) → slot < 64 → SameAt steps others slot) where
  pub active_same : active_slots l steps ≡ active_slots l others
  unfolding active_slots
  active_same = among_same steps others (slots_of l) (each_map (λ k. k < 64) (SameAt steps others) same (slots_of l) (slots_small l))

  -- of a field
  module _ (x : AllocationField) (f : Field l x) where
    at : (ch : ℕ) → ch < 2 → SameAt steps others (slot_of ch x.subband)
    at ch h = same (slot_of ch x.subband) (let c = f.carried in omega (arith, sblimit_small l.table))

    steps_same : field_steps steps x ≡ field_steps others x
    steps_same = at x.channel f.channel

    shared_same : same_steps steps x (served x) ≡ same_steps others x (served x)
    shared_same = go x.both
      where
        one : (ch : ℕ) → ch < 2 → eqb (get_or steps (slot_of ch x.subband) 0) (field_steps steps x) ≡ eqb (get_or others (slot_of ch x.subband) 0) (field_steps others x)
        one ch h = ap₂ eqb (at ch h) steps_same

        go : (b : Bool) → same_steps steps x (cond b (0 ∷ 1 ∷ []) (x.channel ∷ [])) ≡ same_steps others x (cond b (0 ∷ 1 ∷ []) (x.channel ∷ []))
        go true = ap₂ (λ (a b : Bool). a && (b && true)) (one 0 (lit< tt)) (one 1 (lit< tt))
        go false = ap (λ (a : Bool). a && true) (one x.channel f.channel)

-- ---- records that agree

pub record Agree (l : Layout) (r s : SideInfo) : Type 0 where
  pub steps : (slot : ℕ) → slot < 64 → SameAt r.steps s.steps slot
  pub scfsi : (slot : ℕ) → one_of (active_slots l r.steps) slot ≡ true → scfsi_in r slot ≡ scfsi_in s slot
  pub indices : (slot : ℕ) → one_of (active_slots l r.steps) slot ≡ true → scalefactors_in r slot ≡ scalefactors_in s slot

module _ (l : Layout) (r s : SideInfo) (a : Agree l r s) where
  abbrev active : List ℕ
  active = active_slots l r.steps

  alike : active ≡ active_slots l s.steps
  alike = active_same l r.steps s.steps a.steps

  -- the questions
  field_asked_lem : (x : AllocationField) → Field l x → field_asked l r x ≡ field_asked l s x
  field_asked_lem x f =
      ap₂ (λ (b : Bool) (n : ℕ). record { yes = b; otherwise = 6 } ∷ record { yes = is_some (index_of l.table x.subband n); otherwise = 7 } ∷ [])
      (shared_same l r.steps s.steps a.steps x f) (steps_same l r.steps s.steps a.steps x f)

  slot_asked_lem : (slot : ℕ) → one_of active slot ≡ true → scalefactor_asked r slot ≡ scalefactor_asked s slot
  slot_asked_lem slot h = ap (λ (t : Three). record { yes = tabled t; otherwise = 8 }) (a.indices slot h)

  asked_same : record_asked l r ≡ record_asked l s
  unfolding record_asked
  asked_same =
      ap₂ ◌++◌ (flat_each (field_asked l r) (field_asked l s) (fields_of l) (each_map _ _ field_asked_lem (fields_of l) (each_field l)))
      (map_each (scalefactor_asked r) (scalefactor_asked s) active (each_of _ active slot_asked_lem) ∙ ap (map (scalefactor_asked s)) alike)

  -- the bits
  field_bits : (x : AllocationField) → Field l x → allocation_field_bits l r x ≡ allocation_field_bits l s x
  field_bits x f =
      ap (λ (n : ℕ). bits_of (nbal_of l.table x.subband) (or_zero (index_of l.table x.subband n))) (steps_same l r.steps s.steps a.steps x f)

  bits_same : side_info_bits l r ≡ side_info_bits l s
  unfolding side_info_bits
  bits_same =
      ap₂ ◌++◌ (flat_each (allocation_field_bits l r) (allocation_field_bits l s) (fields_of l) (each_map _ _ field_bits (fields_of l) (each_field l)))
      (ap₂ ◌++◌
      (flat_each (scfsi_bits r) (scfsi_bits s) active (each_of _ active (λ slot h. ap (λ (c : Scfsi). bits_of 2 (code_of c)) (a.scfsi slot h)))
      ∙ ap (flat_map (scfsi_bits s)) alike)
      (flat_each (scalefactor_bits r) (scalefactor_bits s) active
      (each_of _ active (λ slot h. ap₂ (λ (c : Scfsi) (t : Three). flat_map (bits_of 6) (sent c t)) (a.scfsi slot h) (a.indices slot h)))
      ∙ ap (flat_map (scalefactor_bits s)) alike))

pub written_same : (h : FrameHeader) (r s : SideInfo) → Agree (header_layout h) r s → written_of h r ≡ written_of h s
unfolding written_of
written_same h r s a =
    ap₂ (λ (qs : List (Question ℕ)) (bits : List Bool). let n = number (header_asked h ++ qs) in written n (where_zero n bits))
    (asked_same (header_layout h) r s a) (bits_same (header_layout h) r s a)

-- ---- records that say the same

-- the chosen scfsi of a slot
pub scfsi_chosen : (s : SideInfo) (slot : ℕ) → slot < 64 → scfsi_in (canonical s) slot ≡ fewest_scfsi (scalefactors_in s slot)
unfolding chosen
scfsi_chosen s slot h = tabulated 64 (λ k. fewest_scfsi (scalefactors_in s k)) slot idle_scfsi h

module _ (l : Layout) where
  -- their canonical records agree where the writer looks
  pub canonical_agree : (s t : SideInfo) → SaysTheSame l s t → Agree l (canonical s) (canonical t)
  canonical_agree s t e = record {
    steps = e.steps;
    scfsi = λ slot h.
        let small = active_slot l s.steps slot h in
        scfsi_chosen s slot small ∙ ap fewest_scfsi (e.indices slot h) ∙ sym (scfsi_chosen t slot small);
    indices = e.indices;
  }

  pub says_turned : (s t : SideInfo) → SaysTheSame l s t → SaysTheSame l t s
  says_turned s t e = record {
    steps = λ slot h. sym (e.steps slot h);
    indices = λ slot h. sym (e.indices slot (ap (λ (k : List ℕ). one_of k slot) (active_same l s.steps t.steps e.steps) ∙ h));
  }

  pub says_on : (s t u : SideInfo) → SaysTheSame l s t → SaysTheSame l t u → SaysTheSame l s u
  says_on s t u e f = record {
    steps = λ slot h. e.steps slot h ∙ f.steps slot h;
    indices = λ slot h. e.indices slot h ∙ f.indices slot (ap (λ (k : List ℕ). one_of k slot) (sym (active_same l s.steps t.steps e.steps)) ∙ h);
  }
