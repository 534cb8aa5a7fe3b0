-- The three parts are the whole, and each answer is the one by its number.
use Rattle.std.specs.Prelude.{Ok, Err}
use mathlib.Core.Path.{◌≡◌, refl, sym, ap, ap₂, ◌∙◌}
use mathlib.Core.Bool.{Bool, true, false, cond}
use mathlib.Core.List.{List, [], ◌++◌, append_assoc, map, flat_map}
use Prim.Native.Nat.{ℕ, ◌+◌, ◌-◌, ◌*◌, ◌≤◌}
use native.Mathlib.Omega.{arith}
use lib.Dec.{eqb, lit≤}
use lib.ListN.{length, drop, replicate, length-append}
use lib.Seq.{drop_at}
use Rattle.header.specs.declared.FrameHeader.{FrameHeader}
use Rattle.header.specs.Questions.{Question, number}
use Rattle.header.proofs.QuestionLaws.{behind, all_yes, some_no}
use Rattle.layout.specs.declared.Layout.{Layout}
use Rattle.layout.specs.Layout.{fields_of, sum_over}
use Rattle.encoder_bit_budget.specs.declared.FixedBitBudget.{FixedBitBudget}
use Rattle.encoder_bit_budget.specs.declared.BitAllocError.{BitAllocError}
use Rattle.encoder_bit_budget.specs.Budget.{plain, header_asked, budget_in, budget_of, layout_in}
use Rattle.encoder_bit_budget.specs.Budget as budget
use Rattle.encoder_bit_budget.proofs.BudgetLaws.{refusing_header, apart, answer_is}
use Rattle.bit_string.specs.Bits.{packed, unpacked}
use Rattle.bit_string.proofs.PackLaws.{unpacked_packed}
use Rattle.side_info.specs.declared.SideInfo.{SideInfo}
use Rattle.side_info.specs.SideInfo.{header_layout, active_slots, allocation_field_bits, scfsi_bits, scalefactor_bits, side_info_bits, field_asked, scalefactor_asked, record_asked, slot_count}
use Rattle.side_info.proofs.CountLaws.{slots_count, slot_most, counted, most}
use Rattle.side_info.proofs.FlatLaws.{sum_most}
use Rattle.side_info.proofs.HeaderLaws.{same_layout}
use Rattle.side_info_writer.specs.declared.WriteError.{WriteError}
use Rattle.side_info_writer.specs.declared.WriteError.TheVariants.{Header, StepsDiffer, StepsNotInRow, IndexNotInTable}
use Rattle.side_info_writer.specs.Written.{WrittenAnswer, error_number, written, where_zero, writer_asked, written_of, written_in, WrittenIs}
use Rattle.side_info_writer.specs.OnTheWay.{Passed, Stopped, TabledAre, written_under}

-- ---- behind the allocation

-- the allocation fields have 188 bits at most, and the other sections 20 for each slot
module _ (slots : List ℕ) (few : length slots ≤ 60) (r : SideInfo) (fields : List Bool) (near : length fields ≤ 188) where
  abbrev scfsis : List Bool
  scfsis = flat_map (scfsi_bits r) slots

  abbrev indices : List Bool
  indices = flat_map (scalefactor_bits r) slots

  both_long : length scfsis + length indices ≤ 1200
  both_long =
      let c : length scfsis + length indices ≡ sum_over (slot_count r) slots = slots_count r slots in
      omega (arith, sum_most (slot_count r) 20 (slot_most r) slots)

  pub scfsi_fit : length fields + length scfsis ≤ 1392
  scfsi_fit = let b = both_long in omega arith

  pub indices_fit : length (fields ++ scfsis) + length indices ≤ 1392
  indices_fit = let b = both_long in let c = length-append fields scfsis in omega arith

-- ---- the answers in a layout

-- no refusal has the number of an accepted record
refusing : (e : WriteError) → eqb (error_number e) 0 ≡ false
refusing (Header e) = apart e
refusing StepsDiffer = refl
refusing StepsNotInRow = refl
refusing IndexNotInTable = refl

module _ (l : Layout) (r : SideInfo) where
  abbrev questions : List (Question ℕ)
  questions = flat_map (field_asked l r) (fields_of l)

  abbrev slot_questions : List (Question ℕ)
  slot_questions = map (scalefactor_asked r) (active_slots l r.steps)

  decided : (n : ℕ) → number (questions ++ slot_questions) ≡ n → number (record_asked l r) ≡ n
  unfolding record_asked
  decided n e = e

  -- a field is refused
  pub stopped : (n : ℕ) → Stopped questions n → number (record_asked l r) ≡ n
  stopped n s = decided n (s.decides slot_questions)

  -- none is
  module _ (passed : Passed questions) (slots : List ℕ) (active : slots ≡ active_slots l r.steps) where
    pub answered : (v : Bool) → TabledAre slots r v → number (record_asked l r) ≡ cond v 0 8
    answered v t =
        decided (cond v 0 8)
        (passed.decides slot_questions ∙ ap (λ (xs : List ℕ). number (map (scalefactor_asked r) xs)) (sym active) ∙ t.answer)

    pub sections_are : (fields : List Bool) → fields ≡ flat_map (allocation_field_bits l r) (fields_of l)
        → (fields ++ flat_map (scfsi_bits r) slots) ++ flat_map (scalefactor_bits r) slots ≡ side_info_bits l r
    unfolding side_info_bits
    sections_are fields e =
        append_assoc fields (flat_map (scfsi_bits r) slots) (flat_map (scalefactor_bits r) slots)
        ∙ ap₂ (λ (bs : List Bool) (xs : List ℕ). bs ++ (flat_map (scfsi_bits r) xs ++ flat_map (scalefactor_bits r) xs)) e active

  under : (n : ℕ) → number (record_asked l r) ≡ n → written n (where_zero n (side_info_bits l r)) ≡ written_under l r
  unfolding written_under
  under n e = ap (λ (m : ℕ). written m (where_zero m (side_info_bits l r))) (sym e)

  pub accepted : (bits : List Bool) (bytes : List ℕ) (used : ℕ) → number (record_asked l r) ≡ 0 → bits ≡ side_info_bits l r → bytes ≡ packed 174 bits → used ≡ length bits
      → record { number = 0; bytes = bytes; bits_used = used } ≡ written_under l r
  accepted bits bytes used z e p u = (λ i. record { number = 0; bytes = p i; bits_used = u i }) ∙ ap (written 0) e ∙ under 0 z

  pub not_written : (e : WriteError) → number (record_asked l r) ≡ error_number e → written_in (Err e) ≡ written_under l r
  not_written e z = ap (λ (v : Bool). written (error_number e) (cond v (side_info_bits l r) [])) (sym (refusing e)) ∙ under (error_number e) z

-- ---- the whole answer

module _ (h : FrameHeader) (r : SideInfo) where
  abbrev bits : List Bool
  bits = side_info_bits (header_layout h) r

  of_number : (n : ℕ) → number (writer_asked h r) ≡ n → written n (where_zero n bits) ≡ written_of h r
  unfolding written_of
  of_number n e = ap (λ (m : ℕ). written m (where_zero m bits)) (sym e)

  -- the header is refused
  pub from_refused : (e : BitAllocError) → budget_in (Err e) ≡ budget_of (plain h 0) → written_in (Err (Header e)) ≡ written_of h r
  from_refused e p =
      let n = budget.error_number e in
      let z : number (header_asked h) ≡ n = sym (answer_is (plain h 0)) ∙ sym (ap (λ a. a.answer) p) in
      let first : number (writer_asked h r) ≡ n =
      behind 0 (header_asked h) (record_asked (header_layout h) r)
      ∙ some_no (number (record_asked (header_layout h) r)) (header_asked h) (rw z (apart e)) ∙ z in
      ap (λ (v : Bool). written n (cond v bits [])) (sym (apart e)) ∙ of_number n first

  module _ (b : FixedBitBudget) (ok : budget_in (Ok b) ≡ budget_of (plain h 0)) where
    -- it is accepted
    pub from_accepted : (l : Layout) (w : WrittenAnswer) → l ≡ layout_in b → w ≡ written_under l r → w ≡ written_of h r
    unfolding written_under
    from_accepted l w e made =
        let z : number (header_asked h) ≡ 0 = sym (answer_is (plain h 0)) ∙ sym (ap (λ a. a.answer) ok) in
        let n = number (record_asked (header_layout h) r) in
        made ∙ ap (λ (k : Layout). written_under k r) (e ∙ same_layout h b ok)
        ∙ of_number n (behind 0 (header_asked h) (record_asked (header_layout h) r) ∙ all_yes n (header_asked h) (refusing_header h) z)

  -- the whole answer keeps the promises
  few : (n : ℕ) → length (where_zero n bits) ≤ 1388
  few n = go (eqb n 0)
    where
      go : (v : Bool) → length (cond v bits []) ≤ 1388
      go true = most (header_layout h) r
      go false = lit≤ tt

  zeros_behind : (bs : List Bool) → length bs ≤ 1388 → drop (length bs) (unpacked (packed 174 bs)) ≡ replicate (8 * 174 - length bs) false
  zeros_behind bs m = ap (drop (length bs)) (unpacked_packed 174 bs (omega arith)) ∙ drop_at bs (replicate (8 * 174 - length bs) false) (length bs) refl

  pub promises : (w : WrittenAnswer) → w ≡ written_of h r → WrittenIs h r w
  unfolding written_of
  promises w e =
      let n = number (writer_asked h r) in
      let used : w.bits_used ≡ length (where_zero n bits) = ap (λ (v : WrittenAnswer). v.bits_used) e in
      record {
        whole = e;
        counted = λ z. used ∙ ap (λ (m : ℕ). length (where_zero m bits)) (sym (ap (λ (v : WrittenAnswer). v.number) e) ∙ z) ∙ counted (header_layout h) r;
        most = rw used (few n);
        behind = ap₂ (λ (k : ℕ) (bytes : List ℕ). drop k (unpacked bytes)) used (ap (λ (v : WrittenAnswer). v.bytes) e)
            ∙ zeros_behind (where_zero n bits) (few n) ∙ ap (λ (k : ℕ). replicate (8 * 174 - k) false) (sym used);
      }
