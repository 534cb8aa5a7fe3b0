-- The number of the answer: the check's where it refuses, else the writer's.
use mathlib.Core.Path.{◌≡◌, refl, sym, ap, ◌∙◌}
use mathlib.Core.Bool.{Bool, true, false, cond}
use mathlib.Core.List.{List, [], ◌∷◌, ◌++◌, append_assoc, map, flat_map}
use Prim.Native.Nat.{ℕ}
use lib.Dec.{eqb}
use borrow.Author.Tests.{ne_eqb}
use Rattle.header.specs.declared.FrameHeader.{FrameHeader}
use Rattle.header.specs.Questions.{Question, first_no, number}
use Rattle.header.proofs.QuestionLaws.{said_yes, behind, all_yes, some_no, both_zero}
use Rattle.encoder_bit_budget.specs.Budget.{header_asked}
use Rattle.layout.specs.declared.Layout.{Layout}
use Rattle.layout.specs.declared.AllocationField.{AllocationField}
use Rattle.layout.specs.Layout.{own, fields_of}
use Rattle.side_info.specs.declared.SideInfo.{SideInfo}
use Rattle.side_info.specs.SideInfo.{header_layout, active_slots, shared_asked, row_asked, field_asked, scalefactor_asked, record_asked, side_info_bits}
use Rattle.side_info.proofs.ListLaws.{Each, each_at}
use Rattle.record_check.specs.Together.{HangsTogether}
use Rattle.record_check.specs.Check.{slot_asked, in_order, check_of}
use Rattle.record_check.proofs.PassLaws.{fields_equal}
use Rattle.record_check.proofs.NumberLaws.{checks, check_is, checks_refusing}
use Rattle.record_check.proofs.PromiseLaws as Check
use Rattle.side_info_writer.specs.Written.{written, where_zero, writer_asked, written_of}
use Rattle.side_info_reading.proofs.ReadLaws.{rest_decides}
use Rattle.canonical_form.specs.Fewest.{canonical}
use Rattle.canonical_form.specs.Canonical.{canonical_asked, canonical_of}

module _ (l : Layout) (s : SideInfo) where
  -- ---- question 6 has been answered yes

  six_passed : (xs : List AllocationField) (rest : List (Question ℕ)) → Each (λ x. (shared_asked s x).yes ≡ true) xs
      → number (map (row_asked l s) xs ++ rest) ≡ number (flat_map (field_asked l s) xs ++ rest)
  unfolding flat_map
  six_passed [] rest e = refl
  six_passed (x ∷ xs) rest e =
      let come = flat_map (field_asked l s) xs ++ rest in
      ap (λ (n : ℕ). elim (row_asked l s x).yes [ true ↦ n | false ↦ 7 ]) (six_passed xs rest e.1)
      ∙ sym (ap number (append_assoc (field_asked l s x) (flat_map (field_asked l s) xs) rest) ∙ said_yes 0 (shared_asked s x) (row_asked l s x ∷ come) e.0)

  abbrev rest : List (Question ℕ)
  rest = map (row_asked l s) (fields_of l) ++ map (scalefactor_asked s) (active_slots l s.steps)

  rest_is : HangsTogether l s → number rest ≡ number (record_asked l s)
  unfolding record_asked
  rest_is whole =
      six_passed (fields_of l) (map (scalefactor_asked s) (active_slots l s.steps))
      (each_at (λ x. (shared_asked s x).yes ≡ true) (own 0 0) (fields_of l) (fields_equal l s whole))

-- ---- under a header

module _ (h : FrameHeader) (s : SideInfo) where
  abbrev l : Layout
  l = header_layout h

  parts : number (canonical_asked h s) ≡ first_no (number (rest l s)) (checks h s)
  unfolding canonical_asked
  parts = ap number (sym (append_assoc (header_asked h) (flat_map (slot_asked l s) in_order) (rest l s))) ∙ behind 0 (checks h s) (rest l s)

  number_refused : ((check_of h s).number ≡ 0 → ⊥) → number (canonical_asked h s) ≡ (check_of h s).number
  number_refused n = parts ∙ some_no (number (rest l s)) (checks h s) (ap (λ (n : ℕ). eqb n 0) (sym (check_is h s)) ∙ ne_eqb (check_of h s).number 0 n) ∙ sym (check_is h s)

  module _ (z : (check_of h s).number ≡ 0) where
    zero : number (checks h s) ≡ 0
    zero = sym (check_is h s) ∙ z

    header_zero : number (header_asked h) ≡ 0
    header_zero = both_zero (header_asked h) (flat_map (slot_asked l s) in_order) zero

    pub together : HangsTogether l s
    together = (Check.promises h s (check_of h s) refl).together z

    number_accepted : number (canonical_asked h s) ≡ number (writer_asked h s)
    number_accepted =
        parts
        ∙ all_yes (number (rest l s)) (checks h s) (checks_refusing h s) zero
        ∙ rest_is l s together ∙ sym (rest_decides h s header_zero)

  -- ---- the answers

  -- what the check refuses
  pub is_refused : ((check_of h s).number ≡ 0 → ⊥) → canonical_of h s ≡ written (check_of h s).number []
  unfolding canonical_of
  is_refused nonzero =
      let n = (check_of h s).number in
      ap (λ (m : ℕ). written m (where_zero m (side_info_bits l (canonical s)))) (number_refused nonzero)
      ∙ ap (λ (b : Bool). written n (cond b (side_info_bits l (canonical s)) [])) (ne_eqb n 0 nonzero)

  -- the writer's questions do not look at scfsi
  scfsi_unasked : number (writer_asked h (canonical s)) ≡ number (writer_asked h s)
  unfolding record_asked
  scfsi_unasked = refl

  -- what it accepts has the writer's answer to the canonical record
  pub is_written : (check_of h s).number ≡ 0 → canonical_of h s ≡ written_of h (canonical s)
  unfolding canonical_of written_of
  is_written z = ap (λ (m : ℕ). written m (where_zero m (side_info_bits l (canonical s)))) (number_accepted z ∙ sym scfsi_unasked)

  pub same_number : (check_of h s).number ≡ 0 → (canonical_of h s).number ≡ (written_of h s).number
  unfolding canonical_of written_of
  same_number z = number_accepted z
