-- What an allocation accepts passes the check, and can be sent.
use Rattle.std.specs.Prelude.{Option, None, Some, is_some, Ok}
use mathlib.Core.Path.{◌≡◌, refl, sym, ap, ◌∙◌, subst}
use mathlib.Core.Bool.{true≢false, false}
use mathlib.Core.List.{List}
use Prim.Native.Nat.{ℕ, ◌+◌, ◌≤◌, ◌<◌}
use native.Mathlib.Omega.{arith}
use lib.Ieee.{Float}
use lib.ListN.{length, get_or, replicate}
use Rattle.tables.proofs.Listed.{blank, map_at}
use Rattle.header.specs.declared.FrameHeader.{FrameHeader}
use Rattle.header.specs.Questions.{number}
use Rattle.header.proofs.QuestionLaws.{behind, all_yes}
use Rattle.layout.specs.declared.Layout.{Layout}
use Rattle.layout.specs.Slots.{slot_of, channel_in, subband_in}
use Rattle.layout.specs.Layout.{own, layout_of, fields_of, field_in}
use Rattle.layout.proofs.ServedLaws.{slot_served}
use Rattle.audio_data.specs.declared.Scfsi.{Scfsi}
use Rattle.audio_data.specs.declared.Scfsi.TheVariants.{ThreePerGranule}
use Rattle.audio_data.specs.Scfsi.{Agrees}
use Rattle.audio_data.specs.Record.{fresh}
use Rattle.encoder_bit_budget.specs.declared.Request.{Request}
use Rattle.encoder_bit_budget.specs.declared.FixedBitBudget.{FixedBitBudget}
use Rattle.encoder_bit_budget.specs.Budget.{header_asked, cb_of, crc_bits, allocation_bits, budget_with, budget_under, budget_in, budget_of, layout_in, fixed_in, offered_of, natural}
use Rattle.encoder_bit_budget.proofs.BudgetLaws.{refusing_header, answer_is, accepted_is, table_is, layout_is}
use Rattle.encoder_bit_budget.proofs.AvailableLaws.{natural_minus}
use Rattle.encoder_bit_demand.specs.Demand.{first_step}
use Rattle.allocation_worth.specs.Worth.{Worth}
use Rattle.encoder_bit_allocator.specs.Allocation.{AllocationAnswer, worst_case, accepted, allocation_in, allocation_of, AllocationIs}
use Rattle.encoder_bit_allocator.proofs.AnswerLaws.{asked_zero, number_is}
use Rattle.side_info.specs.declared.SideInfo.{SideInfo}
use Rattle.side_info.specs.SideInfo.{side_info, scalefactors_in, header_layout, or_b2a, record_asked, idle_scfsi}
use Rattle.record_check.specs.Together.{StepsCarried}
use Rattle.side_info_writer.specs.Written.{WrittenAnswer, writer_asked, written_of, WrittenIs}
use Rattle.record_check.proofs.PassLaws.{hang_together}
use Rattle.allocation_sent.specs.Sent.{CanBeSent, AllocationPasses}
use Rattle.allocation_sent.proofs.AskedLaws.{field_yes, passes}
use Rattle.allocation_sent.proofs.ChargeLaws.{served_count, worst_covers, sent_fits}

-- the number of what is written is that of its questions
number_written : (h : FrameHeader) (r : SideInfo) (w : WrittenAnswer) → WrittenIs h r w → w.number ≡ number (writer_asked h r)
unfolding written_of
number_written h r w i = ap (λ (v : WrittenAnswer). v.number) i.whole

-- the worst case covers every field's slots
covered : (l : Layout) (r : SideInfo) (f : ℕ) → f < length (fields_of l) → served_count r (field_in (fields_of l) f) ≤ get_or (worst_case l) f 0
unfolding worst_case
covered l r f h = rw (map_at first_step (fields_of l) f (own 0 0) 0 h) (worst_covers r (field_in (fields_of l) f))

-- the parts of an accepted budget
record Parts (q : Request) (b : FixedBitBudget) : Type 0 where
  pub cb : b.cb ≡ cb_of q
  pub fixed : fixed_in b ≡ 32 + crc_bits q.header.protection_bit + allocation_bits (header_layout q.header)
  pub layout : layout_in b ≡ header_layout q.header

module _ (q : Request) (z : number (header_asked q.header) ≡ 0) where
  abbrev b : FixedBitBudget
  b = (budget_of q).budget

  ok : budget_in (Ok b) ≡ budget_of q
  ok = λ i. record { answer = sym (answer_is q ∙ z) i; budget = b }

  parts : Parts q b
  unfolding budget_under budget_with
  parts =
      let is = accepted_is q b ok in
      let l = ap (λ o. layout_of q.header (or_b2a o)) (sym (table_is q b ok)) in
      record {
        cb = ap (λ b. b.cb) is;
        fixed = ap fixed_in is ∙ ap (λ (k : Layout). 32 + crc_bits q.header.protection_bit + allocation_bits k) l;
        layout = layout_is q b ok ∙ l;
      }

-- what an accepted allocation has: a header that is accepted, bits for the fixed ones and the caller's, and its worth in the header's layout
record Accepted (q : Request) (smr : List (List Float)) (a : AllocationAnswer) : Type 0 where
  pub header : number (header_asked q.header) ≡ 0
  pub enough : fixed_in (budget_of q).budget + q.banc ≤ (budget_of q).budget.cb
  pub worth : Worth (header_layout q.header) smr (worst_case (header_layout q.header)) (natural (offered_of q)) a.audio.nb_steps a.left

has_accepted : (q : Request) (smr : List (List Float)) (a : AllocationAnswer) → AllocationIs q smr a → a.number ≡ 0 → Accepted q smr a
has_accepted q smr a is zero =
    let yes = asked_zero q (sym (number_is q smr) ∙ sym (ap (λ (v : AllocationAnswer). v.number) is.whole) ∙ zero) in
    record {
      header = yes.0;
      enough = yes.1;
      worth = subst (λ (k : Layout). Worth k smr (worst_case k) (natural (offered_of q)) a.audio.nb_steps a.left) (parts q yes.0).layout (is.worth zero);
    }

pub can_be_sent : (q : Request) (smr : List (List Float)) (a : AllocationAnswer) → CanBeSent q smr a
can_be_sent q smr a = record {
  sent = λ is zero scfsi scalefactors small w i.
      let steps = a.audio.nb_steps in
      let r = side_info steps scfsi scalefactors in
      let l = header_layout q.header in
      let has = has_accepted q smr a is zero in
      let p = parts q has.header in
      let asked : number (writer_asked q.header r) ≡ 0 =
      behind 0 (header_asked q.header) (record_asked l r)
      ∙ all_yes (number (record_asked l r)) (header_asked q.header) (refusing_header q.header) has.header
      ∙ passes l smr (worst_case l) (natural (offered_of q)) a.left r has.worth small in
      let n : w.number ≡ 0 = number_written q.header r w i ∙ asked in
      record {
        accepted = n;
        fits = omega (
          arith,
          i.counted n,
          sent_fits l smr (worst_case l) (natural (offered_of q)) a.left r has.worth (covered l r),
          natural_minus (b q has.header).cb (fixed_in (b q has.header) + q.banc),
          p.cb,
          p.fixed,
          has.enough,
        );
      };
}

-- ---- the check

-- every scfsi of an accepted record is that of three scalefactors
plain_scfsi : (q : Request) (smr : List (List Float)) (a : AllocationAnswer) → a ≡ allocation_of q smr → a.number ≡ 0
    → a.audio.scfsi ≡ replicate 64 idle_scfsi
unfolding allocation_of allocation_in accepted fresh
plain_scfsi q smr a e zero =
    ap (λ (v : AllocationAnswer). v.audio.scfsi) e
    ∙ ap (λ (n : ℕ). (allocation_in (budget_of q).budget smr q.banc n).audio.scfsi) (sym (number_is q smr) ∙ sym (ap (λ (v : AllocationAnswer). v.number) e) ∙ zero)

all_three : (scfsi : List Scfsi) → scfsi ≡ replicate 64 idle_scfsi → (slot : ℕ) → get_or scfsi slot idle_scfsi ≡ ThreePerGranule
all_three scfsi e slot = ap (λ (xs : List Scfsi). get_or xs slot idle_scfsi) e ∙ blank 64 idle_scfsi slot

-- no steps where no field serves the slot
carried_steps : (q : Request) (smr : List (List Float)) (a : AllocationAnswer) → Accepted q smr a → (slot : ℕ) → slot < 64
    → StepsCarried (header_layout q.header) (side_info a.audio.nb_steps a.audio.scfsi a.audio.scalefactor) slot
carried_steps q smr a has slot h none-carries =
    let whole : slot_of (channel_in slot) (subband_in slot) ≡ slot = omega arith in
    ap (λ (k : ℕ). get_or a.audio.nb_steps k 0) (sym whole)
    ∙ has.worth.elsewhere (channel_in slot) (subband_in slot) (omega arith) (omega arith) (not_some _ (sym (slot_served (header_layout q.header) slot) ∙ none-carries))
  where
    not_some : (o : Option ℕ) → is_some o ≡ false → o ≡ None
    not_some None e = refl
    not_some (Some n) e = absurd (true≢false e)

pub allocation_passes : (q : Request) (smr : List (List Float)) (a : AllocationAnswer) → AllocationPasses q smr a
allocation_passes q smr a = record {
  passes = λ is zero c check.
      let s = side_info a.audio.nb_steps a.audio.scfsi a.audio.scalefactor in
      let l = header_layout q.header in
      let has = has_accepted q smr a is zero in
      check.passes has.header
      (hang_together l s (carried_steps q smr a has)
      (λ f h. (field_yes l smr (worst_case l) (natural (offered_of q)) a.left s has.worth f h).shared)
      (λ slot active. subst (λ (v : Scfsi). Agrees v (scalefactors_in s slot)) (sym (all_three a.audio.scfsi (plain_scfsi q smr a is.whole zero) slot)) tt));
}
