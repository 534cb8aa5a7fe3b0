-- What the writer's questions say of a record, both ways: all are answered yes exactly where each field and each active slot says so.
use mathlib.Core.Path.{◌≡◌, refl, sym, ap, ◌∙◌}
use mathlib.Core.Bool.{Bool, true, false, true≢false}
use mathlib.Core.List.{List, [], ◌∷◌, ◌++◌, append_assoc, map, flat_map}
use Prim.Native.Nat.{ℕ}
use lib.Dec.{eqb}
use borrow.Author.Tests.{eq-eqb}
use Rattle.header.specs.Questions.{Question, number}
use Rattle.header.proofs.QuestionLaws.{said_yes}
use Rattle.layout.specs.declared.Layout.{Layout}
use Rattle.layout.specs.declared.AllocationField.{AllocationField}
use Rattle.layout.specs.Layout.{fields_of}
use Rattle.side_info.specs.declared.SideInfo.{SideInfo}
use Rattle.side_info.specs.SideInfo.{active_slots, shared_asked, row_asked, field_asked, scalefactor_asked, record_asked}
use Rattle.side_info.proofs.ListLaws.{Each}

-- the first question is answered yes where none is answered no
first_yes : (q : Question ℕ) (qs : List (Question ℕ)) → eqb q.otherwise 0 ≡ false → number (q ∷ qs) ≡ 0 → (q.yes ≡ true) × (number qs ≡ 0)
first_yes q qs n e = go q.yes e
  where
    go : (b : Bool) → ◌≡◌ {A = ℕ} (elim b [ true ↦ number qs | false ↦ q.otherwise ]) 0 → (b ≡ true) × (number qs ≡ 0)
    go true e = (refl, e)
    go false e = absurd (true≢false (sym (eq-eqb q.otherwise 0 e) ∙ n))

-- ---- slots

pub slots_yes : (asked : ℕ → Question ℕ) → ((s : ℕ) → eqb (asked s).otherwise 0 ≡ false) → (slots : List ℕ) → number (map asked slots) ≡ 0
    → Each (λ s. (asked s).yes ≡ true) slots
slots_yes asked n [] e = tt
slots_yes asked n (s ∷ slots) e = let f = first_yes (asked s) (map asked slots) (n s) e in (f.0, slots_yes asked n slots f.1)

pub slots_pass : (asked : ℕ → Question ℕ) (slots : List ℕ) → Each (λ s. (asked s).yes ≡ true) slots → number (map asked slots) ≡ 0
slots_pass asked [] h = refl
slots_pass asked (s ∷ slots) h = said_yes 0 (asked s) (map asked slots) h.0 ∙ slots_pass asked slots h.1

-- ---- fields

module _ (l : Layout) (r : SideInfo) where
  pub record FieldYes (x : AllocationField) : Type 0 where
    pub shared : (shared_asked r x).yes ≡ true
    pub row : (row_asked l r x).yes ≡ true

  fields_yes : (xs : List AllocationField) (rest : List (Question ℕ)) → number (flat_map (field_asked l r) xs ++ rest) ≡ 0 → Each FieldYes xs × (number rest ≡ 0)
  unfolding flat_map
  fields_yes [] rest e = (tt, e)
  fields_yes (x ∷ xs) rest e =
      let come = flat_map (field_asked l r) xs ++ rest in
      let a = first_yes (shared_asked r x) (row_asked l r x ∷ come) refl (ap number (sym (append_assoc (field_asked l r x) (flat_map (field_asked l r) xs) rest)) ∙ e) in
      let b = first_yes (row_asked l r x) come refl a.1 in
      let c = fields_yes xs rest b.1 in
      ((record { shared = a.0; row = b.0 }, c.0), c.1)

  fields_pass : (xs : List AllocationField) (rest : List (Question ℕ)) → Each FieldYes xs → number (flat_map (field_asked l r) xs ++ rest) ≡ number rest
  unfolding flat_map
  fields_pass [] rest h = refl
  fields_pass (x ∷ xs) rest h =
      let come = flat_map (field_asked l r) xs ++ rest in
      ap number (append_assoc (field_asked l r x) (flat_map (field_asked l r) xs) rest)
      ∙ said_yes 0 (shared_asked r x) (row_asked l r x ∷ come) h.0.shared ∙ said_yes 0 (row_asked l r x) come h.0.row
      ∙ fields_pass xs rest h.1

  -- ---- the record

  pub record RecordYes : Type 0 where
    pub fields : Each FieldYes (fields_of l)
    pub slots : Each (λ s. (scalefactor_asked r s).yes ≡ true) (active_slots l r.steps)

  pub record_yes : number (record_asked l r) ≡ 0 → RecordYes
  unfolding record_asked
  record_yes e =
      let f = fields_yes (fields_of l) (map (scalefactor_asked r) (active_slots l r.steps)) e in
      record { fields = f.0; slots = slots_yes (scalefactor_asked r) (λ s. refl) (active_slots l r.steps) f.1 }

  pub record_passes : RecordYes → number (record_asked l r) ≡ 0
  unfolding record_asked
  record_passes y =
      fields_pass (fields_of l) (map (scalefactor_asked r) (active_slots l r.steps)) y.fields
      ∙ slots_pass (scalefactor_asked r) (active_slots l r.steps) y.slots
