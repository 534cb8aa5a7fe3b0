-- The check without its place: the numbers of its questions.
use mathlib.Core.Path.{◌≡◌, refl, sym, ap, ◌∙◌}
use mathlib.Core.List.{List, [], ◌∷◌, ◌++◌, flat_map}
use Prim.Native.Nat.{ℕ}
use lib.Dec.{T}
use Rattle.header.specs.declared.FrameHeader.{FrameHeader}
use Rattle.header.specs.Questions.{Question, first_no, number, telling}
use Rattle.header.proofs.QuestionLaws.{behind, refusing, refusing_both, told_back}
use Rattle.encoder_bit_budget.specs.Budget.{header_asked}
use Rattle.encoder_bit_budget.proofs.BudgetLaws.{refusing_header}
use Rattle.layout.specs.declared.Layout.{Layout}
use Rattle.side_info.specs.declared.SideInfo.{SideInfo}
use Rattle.side_info.specs.SideInfo.{header_layout}
use Rattle.record_check.specs.Check.{CheckAnswer, slot_asked, in_order, about_slot, about_none, slots_asked, check_of}
use Rattle.record_check.proofs.SlotLaws.{slot_refusing}

abbrev number_in : CheckAnswer → ℕ
number_in c = c.number

module _ (l : Layout) (s : SideInfo) where
  slots_number : (slots : List ℕ)
      → number_in (first_no (about_none 0) (flat_map (λ slot. telling (about_slot slot) (slot_asked l s slot)) slots)) ≡ number (flat_map (slot_asked l s) slots)
  unfolding flat_map
  slots_number [] = refl
  slots_number (slot ∷ slots) =
      let come = flat_map (λ k. telling (about_slot k) (slot_asked l s k)) slots in
      ap number_in (behind (about_none 0) (telling (about_slot slot) (slot_asked l s slot)) come)
      ∙ told_back number_in (about_slot slot) (λ n. refl) (first_no (about_none 0) come) (slot_asked l s slot)
      ∙ ap (λ (n : ℕ). first_no n (slot_asked l s slot)) (slots_number slots)
      ∙ sym (behind 0 (slot_asked l s slot) (flat_map (slot_asked l s) slots))

  slots_refusing : (slots : List ℕ) → T (refusing (flat_map (slot_asked l s) slots))
  unfolding flat_map
  slots_refusing [] = tt
  slots_refusing (slot ∷ slots) = refusing_both (slot_asked l s slot) (flat_map (slot_asked l s) slots) (slot_refusing l s slot) (slots_refusing slots)

module _ (h : FrameHeader) (s : SideInfo) where
  abbrev pub checks : List (Question ℕ)
  checks = header_asked h ++ flat_map (slot_asked (header_layout h) s) in_order

  pub check_is : (check_of h s).number ≡ number checks
  unfolding check_of slots_asked
  check_is =
      let asked = slots_asked (header_layout h) s in
      ap number_in (behind (about_none 0) (telling about_none (header_asked h)) asked)
      ∙ told_back number_in about_none (λ n. refl) (first_no (about_none 0) asked) (header_asked h)
      ∙ ap (λ (n : ℕ). first_no n (header_asked h)) (slots_number (header_layout h) s in_order)
      ∙ sym (behind 0 (header_asked h) (flat_map (slot_asked (header_layout h) s) in_order))

  -- a no has a number
  pub checks_refusing : T (refusing checks)
  checks_refusing =
      refusing_both (header_asked h) (flat_map (slot_asked (header_layout h) s) in_order) (refusing_header h) (slots_refusing (header_layout h) s in_order)
