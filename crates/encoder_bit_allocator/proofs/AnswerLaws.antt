-- Each answer of an allocation from what the budget answered.
use Rattle.std.specs.Prelude.{Ok, Err}
use mathlib.Core.Path.{◌≡◌, refl, sym, ap, ap₂, ◌∙◌, subst}
use mathlib.Core.Bool.{Bool, true, false, cond}
use mathlib.Core.List.{List, [], ◌∷◌}
use Prim.Native.Nat.{ℕ, zero, suc, ◌+◌, ◌-◌, ◌*◌, ◌≤◌, ◌<◌}
use native.Mathlib.Nat.{zero-div}
use native.Mathlib.Omega.{arith}
use lib.Dec.{T, eqb, leb, lit≤}
use lib.Ieee.{Float, nan, binary64, fits}
use lib.ListN.{get_or}
use mir.Val.{Val}
use denote.Shadow.{shadow}
use denote.Laws.{Is}
use denote.Array.{Array, each, in_array}
use denote.Floats.{FloatOf, passes}
use borrow.Author.Tests.{eqb-true, leb-true, le-leb, lt-leb}
use Rattle.header.specs.Questions.{number}
use Rattle.header.specs.Header.{frame_bytes, free_format}
use Rattle.header.proofs.QuestionLaws.{behind, all_yes, some_no, said_yes, said_no}
use Rattle.layout.specs.declared.Layout.{Layout}
use Rattle.audio_data.specs.declared.AudioData.{AudioData}
use Rattle.audio_data.specs.Record.{fresh}
use Rattle.encoder_bit_budget.specs.declared.Request.{Request}
use Rattle.encoder_bit_budget.specs.declared.FixedBitBudget.{FixedBitBudget}
use Rattle.encoder_bit_budget.specs.declared.BitAllocError.{BitAllocError}
use Rattle.encoder_bit_budget.specs.declared.BitAllocError.TheVariants.{RateOffLadder, NoBitallocTable, ZeroSampleRate, InsufficientFrameSize}
use Rattle.encoder_bit_budget.specs.Budget.{header_asked, error_number, budget_in, budget_of, budget_under, budget_with, layout_in, fixed_in, offered_in, offered_of, natural}
use Rattle.encoder_bit_demand.specs.Demand.{smr_at}
use Rattle.encoder_bit_budget.proofs.BudgetLaws.{refusing_header, apart, answer_is, accepted_is, Answered, answered, off, untabled, unrated, served}
use Rattle.encoder_bit_budget.proofs.BudgetLaws as Header
use Rattle.encoder_bit_budget.proofs.AvailableLaws.{natural_minus}
use Rattle.allocation_rounds.specs.declared.Run.{Run}
use Rattle.allocation_run.specs.Steps.{run_of, steps_of}
use Rattle.allocation_run.proofs.RunLaws.{same_run}
use Rattle.allocation_worth.specs.Worth.{Worth}
use Rattle.allocation_worth.proofs.WorthLaws.{worth}
use Rattle.encoder_bit_allocator.specs.Allocation.{AllocationAnswer, answer_in, bits_asked, allocation_asked, worst_case, with_steps, accepted, refused, short, layout_for, allocation_in, allocation_of, AllocationIs}
use Rattle.encoder_bit_allocator.specs.OnTheWay.{CostsAre, allocation_under}

-- ---- the ratios that are handed in are of the format

each_fits : (xs : List Float) (us : List Val) → shadow (each Float (FloatOf binary64).own_val xs us) → (i : ℕ) → T (fits binary64 (get_or xs i nan))
unfolding fits
each_fits [] us p i = tt
each_fits (x ∷ xs) [] p i = absurd p
each_fits (x ∷ xs) (u ∷ us) p zero = passes (fits binary64 x) p.0.1
each_fits (x ∷ xs) (u ∷ us) p (suc i) = each_fits xs us p.1 i

row_fits : (xs : List (List Float)) (us : List Val) → shadow (each (List Float) (in_array Float (FloatOf binary64).own_val 32) xs us)
    → (ch sb : ℕ) → T (fits binary64 (smr_at xs ch sb))
unfolding fits
row_fits [] us p ch sb = tt
row_fits (x ∷ xs) [] p ch sb = absurd p
row_fits (x ∷ xs) (u ∷ us) p zero sb = each_fits x p.0.0 p.0.1.1 sb
row_fits (x ∷ xs) (u ∷ us) p (suc ch) sb = row_fits xs us p.1 ch sb

pub smr_fits : (smr : List (List Float)) (vs : List Val) → Is (Array (Array (FloatOf binary64) 32) 2) smr vs → (ch sb : ℕ) → T (fits binary64 (smr_at smr ch sb))
smr_fits smr vs p = row_fits smr p.0 p.1.1

-- ---- the number

module _ (q : Request) where
  abbrev asked : FixedBitBudget
  asked = (budget_of q).budget

  -- where the header's questions are answered yes the bits are asked
  then_bits : number (header_asked q.header) ≡ 0 → number (allocation_asked q) ≡ number (bits_asked asked q.banc ∷ [])
  then_bits z =
      let bits = bits_asked asked q.banc ∷ [] in
      behind 0 (header_asked q.header) bits ∙ all_yes (number bits) (header_asked q.header) (refusing_header q.header) z

  -- else they are not
  else_header : eqb (number (header_asked q.header)) 0 ≡ false → number (allocation_asked q) ≡ number (header_asked q.header)
  else_header z =
      let bits = bits_asked asked q.banc ∷ [] in
      behind 0 (header_asked q.header) bits ∙ some_no (number bits) (header_asked q.header) z

  -- where all are answered yes, the bits fit
  pub asked_zero : number (allocation_asked q) ≡ 0 → (number (header_asked q.header) ≡ 0) × (fixed_in asked + q.banc ≤ asked.cb)
  asked_zero z = let h = header in (h, fit (leb (fixed_in asked + q.banc) asked.cb) refl (sym (then_bits h) ∙ z))
    where
      header : number (header_asked q.header) ≡ 0
      header = go (eqb (number (header_asked q.header)) 0) refl
        where
          go : (b : Bool) → eqb (number (header_asked q.header)) 0 ≡ b → number (header_asked q.header) ≡ 0
          go true e = eqb-true (number (header_asked q.header)) 0 e
          go false e = sym (else_header e) ∙ z

      fit : (b : Bool) → leb (fixed_in asked + q.banc) asked.cb ≡ b → number (bits_asked asked q.banc ∷ []) ≡ 0 → fixed_in asked + q.banc ≤ asked.cb
      fit true e n = leb-true (fixed_in asked + q.banc) asked.cb e
      fit false e n = let m = sym (said_no 0 (bits_asked asked q.banc) [] e) ∙ n in absurd (omega arith)

  -- neither is ever 3
  pub never_too_large : number (allocation_asked q) ≡ 3 → ⊥
  never_too_large e =
      let bits = bits_asked asked q.banc ∷ [] in
      Header.never_too_large q.header (number bits) (other (bits_asked asked q.banc).yes) (sym (behind 0 (header_asked q.header) bits) ∙ e)
    where
      other : (yes : Bool) → ◌≡◌ {A = ℕ} (elim yes [ true ↦ 0 | false ↦ 4 ]) 3 → ⊥
      other true z = omega arith
      other false z = omega arith

enough : (b : FixedBitBudget) (banc : ℕ) → fixed_in b + banc ≤ b.cb → number (bits_asked b banc ∷ []) ≡ 0
enough b banc l = said_yes 0 (bits_asked b banc) [] (le-leb (fixed_in b + banc) b.cb l)

too_short : (b : FixedBitBudget) (banc : ℕ) → b.cb < fixed_in b + banc → number (bits_asked b banc ∷ []) ≡ 4
too_short b banc l = said_no 0 (bits_asked b banc) [] (lt-leb (fixed_in b + banc) b.cb l)

-- ---- free format

padded : (b : Bool) → cond b 1 0 ≤ 1
padded true = lit≤ tt
padded false = lit≤ tt

module _ (q : Request) (free : free_format q.header ≡ true) where
  free_bytes : frame_bytes q.header ≤ 1
  free_bytes = rw (eqb-true q.header.bit_rate 0 free, zero-div) (omega (arith, padded q.header.padding))

  -- the header alone has 32 bits
  free_short : number (header_asked q.header) ≡ 0 → number (allocation_asked q) ≡ 4
  unfolding budget_under budget_with
  free_short z =
      let b = asked q in
      let is : b ≡ budget_under q b.table = accepted_is q b (λ i. record { answer = sym (answer_is q ∙ z) i; budget = b }) in
      let bhdr : b.bhdr ≡ 32 = ap (λ b. b.bhdr) is in
      let cb : b.cb ≡ 8 * frame_bytes q.header = ap (λ b. b.cb) is in
      then_bits q z ∙ too_short b q.banc (omega (arith, free_bytes))

-- ---- the answers

module _ (q : Request) (smr : List (List Float)) where
  -- the record's number is the answer's
  pub number_is : (allocation_of q smr).number ≡ number (allocation_asked q)
  unfolding allocation_of allocation_in accepted
  number_is = go (number (allocation_asked q)) (eqb (number (allocation_asked q)) 0) (eqb (number (allocation_asked q)) 4) refl refl
    where
      go : (n : ℕ) (a b : Bool) → eqb n 0 ≡ a → eqb n 4 ≡ b
          → (cond a (accepted (layout_for q) smr (worst_case (layout_for q)) (natural (offered_of q)))
          (cond b (short (asked q).cb (fixed_in (asked q)) q.banc) (refused n))).number ≡ n
      go n true b z f = sym (eqb-true n 0 z)
      go n false true z f = sym (eqb-true n 4 f)
      go n false false z f = refl

  -- what an accepted answer is, and what it is worth
  where_zero_lem : number (allocation_asked q) ≡ 0 → allocation_of q smr ≡ accepted (layout_for q) smr (worst_case (layout_for q)) (natural (offered_of q))
  unfolding allocation_of allocation_in
  where_zero_lem z = ap (allocation_in (asked q) smr q.banc) z

  accepted_worth : ((ch sb : ℕ) → T (fits binary64 (smr_at smr ch sb))) → (r : AllocationAnswer)
      → r ≡ accepted (layout_for q) smr (worst_case (layout_for q)) (natural (offered_of q))
      → Worth (layout_for q) smr (worst_case (layout_for q)) (natural (offered_of q)) r.audio.nb_steps r.left
  unfolding accepted
  accepted_worth fit r e =
      subst (λ (a : AllocationAnswer). Worth (layout_for q) smr (worst_case (layout_for q)) (natural (offered_of q)) a.audio.nb_steps a.left) (sym e)
      (worth (layout_for q) smr (worst_case (layout_for q)) (natural (offered_of q)) fit)

  -- the whole answer keeps the promise
  pub answers : (r : AllocationAnswer) → ((ch sb : ℕ) → T (fits binary64 (smr_at smr ch sb))) → r ≡ allocation_of q smr → AllocationIs q smr r
  answers r fit whole =
      let n : r.number ≡ number (allocation_asked q) = ap (λ (a : AllocationAnswer). a.number) whole ∙ number_is in
      record {
        whole = whole;
        worth = λ z. accepted_worth fit r (whole ∙ where_zero_lem (sym n ∙ z));
        free = λ f z. n ∙ free_short q f z;
      }

  -- no header is answered 4
  never_four : number (header_asked q.header) ≡ 4 → ⊥
  never_four z = go (answered q.header)
    where
      go : Answered q.header → ⊥
      go (off n) = let d : ◌≡◌ {A = ℕ} 16 4 = sym n ∙ z in omega arith
      go (untabled n) = let d : ◌≡◌ {A = ℕ} 1 4 = sym n ∙ z in omega arith
      go (unrated n) = let d : ◌≡◌ {A = ℕ} 2 4 = sym n ∙ z in omega arith
      go (served t m n) = let d : ◌≡◌ {A = ℕ} 0 4 = sym n ∙ z in omega arith

  -- the header is refused
  pub from_refused : (e : BitAllocError) → budget_in (Err e) ≡ budget_of q → answer_in (Err e) ≡ allocation_of q smr
  unfolding allocation_of allocation_in
  from_refused e p =
      let z : number (header_asked q.header) ≡ error_number e = sym (answer_is q) ∙ sym (ap (λ a. a.answer) p) in
      is e z ∙ ap (allocation_in (asked q) smr q.banc) (sym (else_header q (rw z (apart e)) ∙ z))
    where
      is : (e : BitAllocError) → number (header_asked q.header) ≡ error_number e → answer_in (Err e) ≡ allocation_in (asked q) smr q.banc (error_number e)
      is RateOffLadder z = refl
      is NoBitallocTable z = refl
      is ZeroSampleRate z = refl
      is (InsufficientFrameSize cb fixed banc) z = absurd (never_four z)

  -- it is accepted, and the bits are asked
  pub from_accepted : (b : FixedBitBudget) (r : AllocationAnswer) → budget_in (Ok b) ≡ budget_of q → r ≡ allocation_under b smr q.banc → r ≡ allocation_of q smr
  unfolding allocation_of allocation_under
  from_accepted b r ok p =
      let z : number (header_asked q.header) ≡ 0 = sym (answer_is q) ∙ sym (ap (λ a. a.answer) ok) in
      p ∙ ap (λ a. allocation_under a.budget smr q.banc) ok ∙ ap (allocation_in (asked q) smr q.banc) (sym (then_bits q z))

-- ---- under an accepted budget, as the code finds it

-- what `accepted` answers
pub made : (l : Layout) (smr : List (List Float)) (costs : List ℕ) (offered : ℕ) (r : Run) (d : AudioData) (steps : List ℕ)
    → r ≡ run_of l smr costs offered → d ≡ fresh l → steps ≡ steps_of l r.places
    → ◌≡◌ {A = AllocationAnswer} (record { number = 0; audio = with_steps d steps; left = r.left; cb = 0; fixed = 0; banc = 0 }) (accepted l smr costs offered)
unfolding accepted
made l smr costs offered r d steps w e q =
    let s = q ∙ ap (λ (s : Run). steps_of l s.places) w in
    λ i. record { number = 0; audio = with_steps (e i) (s i); left = (w i).left; cb = 0; fixed = 0; banc = 0 }

same_costs : (l : Layout) (smr : List (List Float)) (costs : List ℕ) (offered : ℕ) → CostsAre l costs
    → accepted l smr costs offered ≡ accepted l smr (worst_case l) offered
unfolding accepted CostsAre
same_costs l smr costs offered c =
    ap (λ (s : Run). record { number = 0; audio = with_steps (fresh l) (steps_of l s.places); left = s.left; cb = 0; fixed = 0; banc = 0 })
    (same_run l smr costs (worst_case l) offered c)

module _ (b : FixedBitBudget) (smr : List (List Float)) (banc : ℕ) where
  pub under_accepted : (r : AllocationAnswer) (l : Layout) (costs : List ℕ) (fixed : ℕ) → fixed ≡ fixed_in b → fixed + banc ≤ b.cb → l ≡ layout_in b → CostsAre l costs
      → r ≡ accepted l smr costs (b.cb - (fixed + banc)) → r ≡ allocation_under b smr banc
  unfolding allocation_under allocation_in
  under_accepted r l costs fixed f m e c p =
      let k : fixed_in b + banc ≤ b.cb = subst (λ (n : ℕ). n + banc ≤ b.cb) f m in
      let o : b.cb - (fixed + banc) ≡ natural (offered_in b banc) =
      ap (λ (n : ℕ). b.cb - (n + banc)) f ∙ sym (natural_minus b.cb (fixed_in b + banc)) in
      p ∙ same_costs l smr costs (b.cb - (fixed + banc)) c
      ∙ ap₂ (λ (l : Layout) (n : ℕ). accepted l smr (worst_case l) n) e o
      ∙ ap (allocation_in b smr banc) (sym (enough b banc k))

  pub under_short : (fixed : ℕ) → fixed ≡ fixed_in b → b.cb < fixed + banc → short b.cb fixed banc ≡ allocation_under b smr banc
  unfolding allocation_under allocation_in
  under_short fixed f m =
      let k : b.cb < fixed_in b + banc = subst (λ (n : ℕ). b.cb < n + banc) f m in
      ap (λ (n : ℕ). short b.cb n banc) f ∙ ap (allocation_in b smr banc) (sym (too_short b banc k))
