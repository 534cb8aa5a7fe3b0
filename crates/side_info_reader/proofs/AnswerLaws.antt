-- The sections one after the other are the whole, and each answer is the one by what was taken.
use Rattle.std.specs.Prelude.{Ok, Err}
use mathlib.Core.Path.{◌≡◌, refl, sym, ap, ◌∙◌}
use mathlib.Core.Bool.{Bool, cond}
use mathlib.Core.List.{List}
use Prim.Native.Nat.{ℕ, ◌-◌, ◌≤◌}
use native.Mathlib.Omega.{arith}
use lib.Dec.{eqb}
use lib.ListN.{length, replicate, length-append}
use borrow.Author.Tests.{eq-eqb}
use Rattle.header.specs.declared.FrameHeader.{FrameHeader}
use Rattle.header.specs.Questions.{number}
use Rattle.layout.specs.declared.Layout.{Layout}
use Rattle.audio_data.specs.declared.Scfsi.{Scfsi}
use Rattle.audio_data.specs.declared.Scfsi.TheVariants.{ThreePerGranule}
use Rattle.encoder_bit_budget.specs.declared.FixedBitBudget.{FixedBitBudget}
use Rattle.encoder_bit_budget.specs.declared.BitAllocError.{BitAllocError}
use Rattle.encoder_bit_budget.specs.Budget.{plain, header_asked, error_number, budget_in, budget_of, layout_in}
use Rattle.encoder_bit_budget.proofs.BudgetLaws.{apart, answer_is}
use Rattle.bit_string.specs.Bits.{unpacked}
use Rattle.side_info.specs.declared.SideInfo.{SideInfo}
use Rattle.side_info.specs.SideInfo.{side_info, header_layout, active_slots, side_info_bits}
use Rattle.side_info.proofs.CountLaws.{most}
use Rattle.side_info.proofs.HeaderLaws.{same_layout}
use Rattle.side_info_reading.specs.Taken.{got, refused}
use Rattle.side_info_reading.specs.Reading.{nothing, allocation_taken, scfsis_taken, scalefactors_taken, with_steps, with_scfsi, side_info_taken}
use Rattle.side_info_reading.specs.Read.{ReadAnswer, read, read_by, read_of}
use Rattle.side_info_reading.proofs.TakenLaws.{then_got, then_refused}
use Rattle.side_info_reading.proofs.ForthLaws.{read_was_written}
use Rattle.side_info_reader.specs.OnTheWay.{read_under}

-- ---- nothing read yet

pub no_steps : replicate 64 0 ≡ nothing.steps
unfolding nothing
no_steps = refl

pub no_scfsi : replicate 64 ThreePerGranule ≡ nothing.scfsi
unfolding nothing
no_scfsi = refl

pub no_indices : replicate 192 0 ≡ nothing.scalefactors
unfolding nothing
no_indices = refl

-- ---- one section after the other

module _ (l : Layout) (bits : List Bool) where
  pub fields_refused : (n : ℕ) → refused n ≡ allocation_taken l bits → side_info_taken l bits ≡ refused n
  unfolding side_info_taken
  fields_refused n e = then_refused (with_steps l) (allocation_taken l bits) n (sym e)

  module _ (steps : List ℕ) (ahead : List Bool) (fields : got steps ahead ≡ allocation_taken l bits) (active : List ℕ) (are : active ≡ active_slots l steps) where
    behind_fields : side_info_taken l bits ≡ with_steps l steps ahead
    unfolding side_info_taken
    behind_fields = then_got (with_steps l) (allocation_taken l bits) steps ahead (sym fields)

    slots_are : scfsis_taken (active_slots l steps) ahead ≡ scfsis_taken (active) ahead
    slots_are = ap (λ (slots : List ℕ). scfsis_taken slots ahead) (sym are)

    pub scfsi_refused : (n : ℕ) → refused n ≡ scfsis_taken (active) ahead → side_info_taken l bits ≡ refused n
    scfsi_refused n e = behind_fields ∙ then_refused (with_scfsi l steps) (scfsis_taken (active_slots l steps) ahead) n (slots_are ∙ sym e)

    module _ (scfsi : List Scfsi) (behind : List Bool) (second : got scfsi behind ≡ scfsis_taken (active) ahead) where
      behind_scfsi : side_info_taken l bits ≡ with_scfsi l steps scfsi behind
      behind_scfsi = behind_fields ∙ then_got (with_scfsi l steps) (scfsis_taken (active_slots l steps) ahead) scfsi behind (slots_are ∙ sym second)

      indices_are : scalefactors_taken scfsi (active_slots l steps) behind ≡ scalefactors_taken scfsi (active) behind
      indices_are = ap (λ (slots : List ℕ). scalefactors_taken scfsi slots behind) (sym are)

      pub indices_refused : (n : ℕ) → refused n ≡ scalefactors_taken scfsi (active) behind → side_info_taken l bits ≡ refused n
      indices_refused n e =
          behind_scfsi ∙ then_refused (λ s. got (side_info steps scfsi s)) (scalefactors_taken scfsi (active_slots l steps) behind) n (indices_are ∙ sym e)

      pub all_read : (scalefactors : List ℕ) (end : List Bool) → got scalefactors end ≡ scalefactors_taken scfsi (active) behind
          → side_info_taken l bits ≡ got (side_info steps scfsi scalefactors) end
      all_read scalefactors end e =
          behind_scfsi ∙ then_got (λ s. got (side_info steps scfsi s)) (scalefactors_taken scfsi (active_slots l steps) behind) scalefactors end (indices_are ∙ sym e)

-- ---- the answers

module _ (l : Layout) (bytes : List ℕ) where
  pub answer_refused : (n : ℕ) → side_info_taken l (unpacked bytes) ≡ refused n → read n nothing 0 ≡ read_under l bytes
  unfolding read_under
  answer_refused n t = ap (read_by (unpacked bytes)) (sym t)

  module _ (s : SideInfo) (end : List Bool) (t : side_info_taken l (unpacked bytes) ≡ got s end) where
    pub few_used : length (unpacked bytes) - length end ≤ 1392
    few_used =
        let w = ap length (read_was_written l (unpacked bytes) s end t).sent in
        let a = length-append (side_info_bits l s) end in
        omega (arith, most l s)

    pub answer_read : read 0 s (length (unpacked bytes) - length end) ≡ read_under l bytes
    unfolding read_under
    answer_read = ap (read_by (unpacked bytes)) (sym t)

-- ---- under a header

module _ (h : FrameHeader) (bytes : List ℕ) where
  -- it is refused
  pub from_refused : (e : BitAllocError) → budget_in (Err e) ≡ budget_of (plain h 0) → read (error_number e) nothing 0 ≡ read_of h bytes
  unfolding read_of
  from_refused e p =
      let z : number (header_asked h) ≡ error_number e = sym (answer_is (plain h 0)) ∙ sym (ap (λ a. a.answer) p) in
      ap (λ (m : ℕ). read m nothing 0) (sym z)
      ∙ ap (λ (b : Bool). read_by (unpacked bytes) (cond b (side_info_taken (header_layout h) (unpacked bytes)) (refused (number (header_asked h))))) (sym (ap (λ (m : ℕ). eqb m 0) z ∙ apart e))

  -- it is accepted
  pub from_accepted : (b : FixedBitBudget) (l : Layout) (r : ReadAnswer) → budget_in (Ok b) ≡ budget_of (plain h 0) → l ≡ layout_in b → r ≡ read_under l bytes
      → r ≡ read_of h bytes
  unfolding read_of read_under
  from_accepted b l r ok e made =
      let z : number (header_asked h) ≡ 0 = sym (answer_is (plain h 0)) ∙ sym (ap (λ a. a.answer) ok) in
      made ∙ ap (λ (k : Layout). read_under k bytes) (e ∙ same_layout h b ok)
      ∙ ap (λ (v : Bool). read_by (unpacked bytes) (cond v (side_info_taken (header_layout h) (unpacked bytes)) (refused (number (header_asked h))))) (sym (eq-eqb (number (header_asked h)) 0 z))
