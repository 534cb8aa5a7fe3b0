-- What the answer by the list of questions promises.
use mathlib.Core.Path.{◌≡◌, refl, sym, ap, ◌∙◌, subst}
use mathlib.Core.Bool.{Bool, true, false, cond}
use mathlib.Core.List.{List}
use mathlib.Core.Logic.{◌⊎◌, inl, inr}
use Prim.Native.Nat.{ℕ, ◌/◌, ◌%◌, ◌<◌}
use native.Mathlib.Decide.{dec_lt}
use native.Mathlib.Omega.{arith}
use lib.Dec.{eqb, lit<}
use lib.ListN.{get_or}
use borrow.Author.Tests.{eqb-true, eqb-false}
use Rattle.header.specs.declared.FrameHeader.{FrameHeader}
use Rattle.header.specs.Questions.{number, telling}
use Rattle.header.proofs.QuestionLaws.{behind, decided}
use Rattle.layout.specs.declared.Layout.{Layout}
use Rattle.layout.specs.Slots.{slot_of, channel_in, subband_in}
use Rattle.encoder_bit_budget.specs.Budget.{header_asked}
use Rattle.encoder_bit_budget.proofs.BudgetLaws.{refusing_header}
use Rattle.side_info.specs.declared.SideInfo.{SideInfo}
use Rattle.side_info.specs.SideInfo.{header_layout}
use Rattle.record_check.specs.Together.{SlotHolds, HangsTogether}
use Rattle.record_check.specs.Check.{CheckAnswer, slot_asked, in_order, checked, about_slot, about_none, slots_asked, check_of, slot_named, FailsBy, turn_of, CheckIs}
use Rattle.record_check.proofs.SlotLaws.{slot_refusing, holds_passes, passes_holds, refused_fails, second_shared}
use Rattle.record_check.proofs.TurnLaws.{answer, Passing, Refusing, first_of, all_turns, at_turn, turn_of_lem}

-- ---- in a layout

module _ (l : Layout) (s : SideInfo) where
  abbrev pub slots_answer : List ℕ → CheckAnswer
  slots_answer slots = answer (slot_asked l s) (slot_refusing l s) about_slot (about_none 0) slots

  abbrev Passed : Type 0
  Passed = Passing (slot_asked l s) (slot_refusing l s) about_slot (about_none 0) in_order

  abbrev Refused : Type 0
  Refused = Refusing (slot_asked l s) (slot_refusing l s) about_slot (about_none 0) in_order

  outcome : Passed ⊎ Refused
  outcome = first_of (slot_asked l s) (slot_refusing l s) about_slot (about_none 0) in_order

  all_hold : Passed → HangsTogether l s
  all_hold p slot h =
      let t = turn_of_lem slot h in
      passes_holds l s slot (ap (λ (k : ℕ). number (slot_asked l s k)) (sym t.1) ∙ p.each (turn_of slot) (rw all_turns t.0))

  -- the slot that is refused
  module _ (q : Refused) where
    abbrev slot : ℕ
    slot = get_or in_order q.at 0

    at_small : q.at < 64
    at_small = rw (← all_turns) q.here

    slot_is : slot ≡ slot_of (q.at % 2) (q.at / 2)
    slot_is = at_turn q.at at_small

    slot_small : slot < 64
    slot_small = let e = slot_is in let m = at_small in omega arith

    its_turn : turn_of slot ≡ q.at
    its_turn = let e = slot_is in let m = at_small in omega arith

    earlier_hold : (k : ℕ) → k < 64 → turn_of k < q.at → SlotHolds l s k
    earlier_hold k h m = passes_holds l s k (ap (λ (j : ℕ). number (slot_asked l s j)) (sym (turn_of_lem k h).1) ∙ q.before (turn_of k) m)

    not_all : HangsTogether l s → ⊥
    not_all h = eqb-false (number (slot_asked l s slot)) 0 q.no (holds_passes l s slot (h slot slot_small))

    fails_here : FailsBy l s slot (number (slot_asked l s slot))
    fails_here = refused_fails l s slot q.no

    -- a 6 at channel 1 would have been one at channel 0
    six_first : number (slot_asked l s slot) ≡ 6 → channel_in slot ≡ 0
    six_first six = go fails_here (dec_lt (channel_in slot) 1)
      where
        go : FailsBy l s slot (number (slot_asked l s slot)) → Dec (channel_in slot < 1) → channel_in slot ≡ 0
        go f (yes m) = omega arith
        go (inl (e, k)) (no m) = absurd (let z = sym e ∙ six in omega arith)
        go (inr (inr (e, k, j, i))) (no m) = absurd (let z = sym e ∙ six in omega arith)
        go (inr (inl (e, k, broken))) (no m) =
            let low = slot_small in
            let one : channel_in slot ≡ 1 = omega arith in
            let t = its_turn in
            let zeroth = earlier_hold (subband_in slot) (omega arith) (omega arith) in
            absurd (broken (second_shared l s slot one zeroth.shared))

-- ---- under a header

module _ (h : FrameHeader) (s : SideInfo) where
  abbrev l : Layout
  l = header_layout h

  abbrev asked : ℕ
  asked = number (header_asked h)

  by_header : check_of h s ≡ cond (eqb asked 0) (slots_answer l s in_order) (about_none asked)
  unfolding check_of slots_asked
  by_header = behind (about_none 0) (telling about_none (header_asked h)) (slots_asked l s) ∙ decided about_none (slots_answer l s in_order) (header_asked h) (refusing_header h)

  pub header_refused : eqb asked 0 ≡ false → check_of h s ≡ about_none asked
  header_refused e = by_header ∙ ap (λ (b : Bool). cond b (slots_answer l s in_order) (about_none asked)) e

  pub header_accepted : eqb asked 0 ≡ true → check_of h s ≡ slots_answer l s in_order
  header_accepted e = by_header ∙ ap (λ (b : Bool). cond b (slots_answer l s in_order) (about_none asked)) e

  -- the three ways in which an answer comes about
  data Came (r : CheckAnswer) : Type 0 where
    by_a_header : eqb asked 0 ≡ false → r ≡ about_none asked → Came r
    by_no_slot : asked ≡ 0 → Passed l s → r ≡ about_none 0 → Came r
    by_a_slot : asked ≡ 0 → (q : Refused l s) → r ≡ about_slot (slot l s q) (number (slot_asked l s (slot l s q))) → Came r

  came : (r : CheckAnswer) → r ≡ check_of h s → Came r
  came r e = go (eqb asked 0) refl (outcome l s)
    where
      go : (b : Bool) → eqb asked 0 ≡ b → Passed l s ⊎ Refused l s → Came r
      go false z o = by_a_header z (e ∙ header_refused z)
      go true z (inl p) = by_no_slot (eqb-true asked 0 z) p (e ∙ header_accepted z ∙ p.is)
      go true z (inr q) = by_a_slot (eqb-true asked 0 z) q (e ∙ header_accepted z ∙ q.is)

  module _ (r : CheckAnswer) where
    is_refused : Came r → (asked ≡ 0 → ⊥) → r ≡ checked asked 0 0
    is_refused (by_a_header z e) n = e
    is_refused (by_no_slot z p e) n = absurd (n z)
    is_refused (by_a_slot z q e) n = absurd (n z)

    is_passed : Came r → asked ≡ 0 → HangsTogether l s → r ≡ checked 0 0 0
    is_passed (by_a_header z e) n t = absurd (eqb-false asked 0 z n)
    is_passed (by_no_slot z p e) n t = e
    is_passed (by_a_slot z q e) n t = absurd (not_all l s q t)

    is_together : Came r → r.number ≡ 0 → HangsTogether l s
    is_together (by_a_header z e) n = absurd (eqb-false asked 0 z (sym (ap (λ (c : CheckAnswer). c.number) e) ∙ n))
    is_together (by_no_slot z p e) n = all_hold l s p
    is_together (by_a_slot z q e) n =
        absurd (eqb-false (number (slot_asked l s (slot l s q))) 0 q.no (sym (ap (λ (c : CheckAnswer). c.number) e) ∙ n))

    -- the slot named is the one refused
    named : (q : Refused l s) → r ≡ about_slot (slot l s q) (number (slot_asked l s (slot l s q))) → slot_named r ≡ slot l s q
    named q e = ap slot_named e ∙ (let m = slot_small l s q in omega arith)

    is_failing : Came r → asked ≡ 0 → (r.number ≡ 0 → ⊥) → FailsBy l s (slot_named r) r.number
    is_failing (by_a_header z e) n f = absurd (eqb-false asked 0 z n)
    is_failing (by_no_slot z p e) n f = absurd (f (ap (λ (c : CheckAnswer). c.number) e))
    is_failing (by_a_slot z q e) n f =
        subst (λ (k : ℕ). FailsBy l s k r.number) (sym (named q e))
        (subst (FailsBy l s (slot l s q)) (sym (ap (λ (c : CheckAnswer). c.number) e)) (fails_here l s q))

    is_first : Came r → asked ≡ 0 → (k : ℕ) → k < 64 → turn_of k < turn_of (slot_named r) → SlotHolds l s k
    is_first (by_a_header z e) n k small m = absurd (eqb-false asked 0 z n)
    is_first (by_no_slot z p e) n k small m = all_hold l s p k small
    is_first (by_a_slot z q e) n k small m = earlier_hold l s q k small (subst (λ (t : ℕ). turn_of k < t) (ap turn_of (named q e) ∙ its_turn l s q) m)

    is_subband : Came r → r.subband < 32
    is_subband (by_a_header z e) = rw e (lit< tt)
    is_subband (by_no_slot z p e) = rw e (lit< tt)
    is_subband (by_a_slot z q e) = rw e (omega arith)

    is_channel : Came r → r.channel < 2
    is_channel (by_a_header z e) = rw e (lit< tt)
    is_channel (by_no_slot z p e) = rw e (lit< tt)
    is_channel (by_a_slot z q e) = rw e (let m = slot_small l s q in omega arith)

    is_six : Came r → r.number ≡ 6 → r.channel ≡ 0
    is_six (by_a_header z e) n = ap (λ (c : CheckAnswer). c.channel) e
    is_six (by_no_slot z p e) n = ap (λ (c : CheckAnswer). c.channel) e
    is_six (by_a_slot z q e) n = ap (λ (c : CheckAnswer). c.channel) e ∙ six_first l s q (sym (ap (λ (c : CheckAnswer). c.number) e) ∙ n)

  pub promises : (r : CheckAnswer) → r ≡ check_of h s → CheckIs h s r
  promises r e =
      let c = came r e in
      record {
        whole = e;
        refused = is_refused r c;
        passes = is_passed r c;
        together = is_together r c;
        fails = is_failing r c;
        first = is_first r c;
        subband_small = is_subband r c;
        channel_small = is_channel r c;
        six = is_six r c;
      }
