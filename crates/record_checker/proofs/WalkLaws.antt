-- The slots as they are asked one after the other: those before passed, so that those to come decide.
use mathlib.Core.Path.{◌≡◌, refl, sym, ap, ap₂, ◌∙◌}
use mathlib.Core.Bool.{true, false}
use mathlib.Core.List.{◌∷◌, flat_map}
use Prim.Native.Nat.{ℕ, ◌+◌, ◌/◌, ◌%◌, ◌≤◌, ◌<◌}
use native.Mathlib.Numerals.{add-one}
use native.Mathlib.Omega.{arith}
use lib.Dec.{eqb}
use lib.ListN.{drop, drop_of_length-le}
use lib.Seq.{drop-cons}
use Rattle.header.specs.Questions.{number}
use Rattle.layout.specs.declared.Layout.{Layout}
use Rattle.layout.specs.Slots.{slot_of, channel_in, subband_in}
use Rattle.side_info.specs.declared.SideInfo.{SideInfo}
use Rattle.record_check.specs.Check.{slot_asked, in_order, checked, about_slot, about_none, slots_asked}
use Rattle.record_check.proofs.SlotLaws.{slot_refusing}
use Rattle.record_check.proofs.TurnLaws.{next_passes, next_refuses, all_turns, at_turn}
use Rattle.record_check.proofs.PromiseLaws.{slots_answer}
use Rattle.record_checker.specs.declared.SlotError.{SlotError}
use Rattle.record_checker.specs.declared.SlotError.TheVariants.{NotCarried, StepsDiffer, IndicesDiffer}
use Rattle.record_checker.specs.Errors.{slot_number}
use Rattle.record_checker.specs.OnTheWay.{check_under}

module _ (l : Layout) (s : SideInfo) where
  pub record AskedTo (k : ℕ) : Type 0 where
    pub decides : check_under l s ≡ slots_answer l s (drop k in_order)

  pub none_asked : AskedTo 0
  unfolding check_under slots_asked
  none_asked = record { decides = refl }

  module _ (k n : ℕ) (here : k < 64) (so_far : AskedTo k) (is : n ≡ number (slot_asked l s (slot_of (k % 2) (k / 2)))) where
    abbrev slot : ℕ
    slot = slot_of (k % 2) (k / 2)

    next : check_under l s ≡ slots_answer l s (slot ∷ drop (k + 1) in_order)
    next =
        so_far.decides
        ∙ ap (slots_answer l s) (drop-cons in_order k 0 (rw all_turns here) ∙ ap₂ (λ (a m : ℕ). a ∷ drop m in_order) (at_turn k here) (sym (add-one k)))

    pub one_passed : eqb n 0 ≡ true → AskedTo (k + 1)
    one_passed z = record {
      decides = next ∙ next_passes (slot_asked l s) (slot_refusing l s) about_slot (about_none 0) slot (drop (k + 1) in_order) (ap (λ (m : ℕ). eqb m 0) (sym is) ∙ z);
    }

    refused : eqb n 0 ≡ false → checked n (k / 2) (k % 2) ≡ check_under l s
    refused z =
        let b : k / 2 ≡ subband_in slot = omega arith in
        let c : k % 2 ≡ channel_in slot = omega arith in
        (λ i. checked (is i) (b i) (c i))
        ∙ sym (next ∙ next_refuses (slot_asked l s) (slot_refusing l s) about_slot (about_none 0) slot (drop (k + 1) in_order) (ap (λ (m : ℕ). eqb m 0) (sym is) ∙ z))

  -- by the number of an error
  pub one_refused : (k n : ℕ) (here : k < 64) (so_far : AskedTo k) (is : n ≡ number (slot_asked l s (slot_of (k % 2) (k / 2)))) (e : SlotError) → n ≡ slot_number e
      → checked n (k / 2) (k % 2) ≡ check_under l s
  one_refused k n here so_far is NotCarried z = refused k n here so_far is (ap (λ (m : ℕ). eqb m 0) z)
  one_refused k n here so_far is StepsDiffer z = refused k n here so_far is (ap (λ (m : ℕ). eqb m 0) z)
  one_refused k n here so_far is IndicesDiffer z = refused k n here so_far is (ap (λ (m : ℕ). eqb m 0) z)

  pub all_asked : (k : ℕ) → 64 ≤ k → AskedTo k → about_none 0 ≡ check_under l s
  unfolding flat_map
  all_asked k h so_far = sym (so_far.decides ∙ ap (slots_answer l s) (drop_of_length-le in_order {i = k} (rw all_turns h)))
