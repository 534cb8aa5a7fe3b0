-- Laws of the page: which line stands where.
use Rattle.std.specs.Prelude.{is_some, Some, Ok, Err, slice_get}
use mathlib.Core.Path.{◌≡◌, refl, sym, ap, ◌∙◌}
use mathlib.Core.List.{List, [], ◌∷◌, ◌++◌}
use Prim.Native.Nat.{ℕ, ◌+◌, ◌-◌, ◌≤◌, ◌<◌}
use native.Mathlib.Omega.{arith}
use lib.Dec.{T, eqb}
use lib.Ieee.{Float}
use lib.ListN.{length, length-append}
use borrow.Author.Tests.{eq-eqb, ne_eqb}
use Rattle.std.proofs.lemmas.Option.{slice_get-get_or}
use Rattle.tables.specs.Listed.{tabulate}
use Rattle.tables.specs.Search.{find}
use Rattle.tables.proofs.Rule.{all}
use Rattle.tables.proofs.Listed.{tabulated, length_tabulate}
use Rattle.header.specs.declared.FrameHeader.{FrameHeader}
use Rattle.encoder_bit_budget.specs.declared.FixedBitBudget.{FixedBitBudget}
use Rattle.encoder_bit_budget.specs.declared.Request.{Request}
use Rattle.header.specs.Questions.{number}
use Rattle.encoder_bit_budget.specs.Budget.{BudgetAnswer, plain, error_number, header_asked, budget_in, budget_of, layout_in, offered_in, offered_of, natural}
use Rattle.encoder_bit_budget.proofs.BudgetLaws.{answer_is}
use Rattle.encoder_bit_demand.specs.Demand.{Demanded, demand_in, demand_of}
use Rattle.encoder_bit_budget.specs.declared.BitAllocError.{BitAllocError}
use Rattle.encoder_bit_budget.specs.declared.BitAllocError.TheVariants.{RateOffLadder, NoBitallocTable, ZeroSampleRate, InsufficientFrameSize}
use Rattle.encoder_bit_allocator.specs.Allocation.{AllocationAnswer, answer_in, allocation_asked, allocation_of}
use Rattle.text_line.proofs.PageLaws.{in_front, in_back}
use Rattle.plan_lines.specs.Held.{told}
use Rattle.plan_page.specs.Rows.{subband_line}
use Rattle.plan_lines.specs.Refusal.{sentences, refusal_line}
use Rattle.plan_page.specs.Page.{head_of, foot_of, accepted_page, page_by, page_of}

-- ---- the two pages

module _ (h : FrameHeader) (smr : List (List Float)) (b : FixedBitBudget) (offered demand : ℕ) (a : AllocationAnswer) where
  opened_accepted : a.number ≡ 0 → page_by h smr b offered demand a ≡ accepted_page b offered demand a.audio.nb_steps a.left smr
  unfolding page_by
  opened_accepted z = rw (eq-eqb a.number 0 z)

  opened_refused : (a.number ≡ 0 → ⊥) → page_by h smr b offered demand a ≡ refusal_line h a.number a.cb a.fixed a.banc ∷ []
  unfolding page_by
  opened_refused z = rw (ne_eqb a.number 0 z)

module _ (h : FrameHeader) (banc : ℕ) (smr : List (List Float)) (a : AllocationAnswer) (e : a ≡ allocation_of (plain h banc) smr) where
  abbrev q : Request
  q = plain h banc

  by : page_of h banc smr ≡ page_by h smr (budget_of q).budget (natural (offered_of q)) (demand_of h smr).bits a
  unfolding page_of
  by = ap (page_by h smr (budget_of q).budget (natural (offered_of q)) (demand_of h smr).bits) (sym e)

  pub page_accepted : (b : FixedBitBudget) (offered demand : ℕ) → b ≡ (budget_of q).budget → offered ≡ natural (offered_in b banc) → demand ≡ (demand_of h smr).bits
      → a.number ≡ 0 → page_of h banc smr ≡ accepted_page b offered demand a.audio.nb_steps a.left smr
  page_accepted b offered demand p o d z =
      by
      ∙ (λ i. page_by h smr (sym p i) (sym (o ∙ ap (λ (b : FixedBitBudget). natural (offered_in b banc)) p) i) (sym d i) a)
      ∙ opened_accepted h smr b offered demand a z

  pub page_refused : (a.number ≡ 0 → ⊥) → page_of h banc smr ≡ refusal_line h a.number a.cb a.fixed a.banc ∷ []
  page_refused z = by ∙ opened_refused h smr (budget_of q).budget (natural (offered_of q)) (demand_of h smr).bits a z

-- ---- a refused allocation

refused_number : (e : BitAllocError) → (answer_in (Err e)).number ≡ 0 → ⊥
refused_number RateOffLadder z = omega arith
refused_number NoBitallocTable z = omega arith
refused_number ZeroSampleRate z = omega arith
refused_number (InsufficientFrameSize cb fixed banc) z = omega arith

abbrev refusal_said : FrameHeader → AllocationAnswer → List ℕ
refusal_said h a = refusal_line h a.number a.cb a.fixed a.banc

refusal_told : (h : FrameHeader) (e : BitAllocError) → told (refusal_line h) e ≡ refusal_said h (answer_in (Err e))
refusal_told h RateOffLadder = refl
refusal_told h NoBitallocTable = refl
refusal_told h ZeroSampleRate = refl
refusal_told h (InsufficientFrameSize cb fixed banc) = refl

pub refused_page : (h : FrameHeader) (banc : ℕ) (smr : List (List Float)) (e : BitAllocError) → answer_in (Err e) ≡ allocation_of (plain h banc) smr
    → told (refusal_line h) e ∷ [] ≡ page_of h banc smr
refused_page h banc smr e p = ap (λ (t : List ℕ). t ∷ []) (refusal_told h e) ∙ sym (page_refused h banc smr (answer_in (Err e)) p (refused_number e))

-- where there is a budget there is a demand
pub demanded : (h : FrameHeader) (banc : ℕ) (smr : List (List Float)) (b : FixedBitBudget) (e : BitAllocError) → budget_in (Ok b) ≡ budget_of (plain h banc)
    → demand_in (Err e) ≡ demand_of h smr → ⊥
unfolding demand_of
demanded h banc smr b e p d =
    let n : error_number e ≡ number (header_asked h) = ap (λ (a : Demanded). a.answer) d ∙ answer_is (plain h 0) in
    let z : 0 ≡ number (header_asked h) = ap (λ (a : BudgetAnswer). a.answer) p ∙ answer_is (plain h banc) in
    go e (n ∙ sym z)
  where
    go : (e : BitAllocError) → error_number e ≡ 0 → ⊥
    go RateOffLadder z = omega arith
    go NoBitallocTable z = omega arith
    go ZeroSampleRate z = omega arith
    go (InsufficientFrameSize cb fixed banc) z = omega arith

-- every number that the questions of an allocation give has its sentence
pub each_has_one : (q : Request) (cb fixed banc : ℕ)
    → T (all (λ x. is_some (find (λ s. eqb x.otherwise s.0) (sentences q.header cb fixed banc))) (allocation_asked q))
unfolding header_asked
each_has_one q cb fixed banc = tt

-- ---- where a line stands on the page of an accepted request

tabulated_at : {A : Type 0} (n : ℕ) (f : ℕ → A) (k : ℕ) (d : A) → k < n → slice_get (tabulate n f) k ≡ Some (f k)
tabulated_at n f k d h = slice_get-get_or (tabulate n f) k d (rw (length_tabulate n f) h) ∙ ap Some (tabulated n f k d h)

module _ (b : FixedBitBudget) (offered demand : ℕ) (steps : List ℕ) (left : ℕ) (smr : List (List Float)) where
  abbrev head : List (List ℕ)
  head = head_of b offered demand

  abbrev body : List (List ℕ)
  body = tabulate b.sblimit (subband_line (layout_in b) steps smr)

  abbrev foot : List (List ℕ)
  foot = foot_of offered left

  until_foot : length (head ++ body) ≡ 6 + b.sblimit
  until_foot = length-append head body ∙ ap (λ (n : ℕ). 6 + n) (length_tabulate b.sblimit (subband_line (layout_in b) steps smr))

  pub accepted_length : length (accepted_page b offered demand steps left smr) ≡ 9 + b.sblimit
  unfolding accepted_page
  accepted_length = length-append (head ++ body) foot ∙ omega (arith, until_foot)

  pub in_head : (n : ℕ) → n < 6 → slice_get (accepted_page b offered demand steps left smr) n ≡ slice_get (head_of b offered demand) n
  unfolding accepted_page
  in_head n h = in_front (head ++ body) foot n (omega (arith, until_foot)) ∙ in_front head body n h

  pub in_rows : (n : ℕ) → 6 ≤ n → n - 6 < b.sblimit
      → slice_get (accepted_page b offered demand steps left smr) n ≡ Some (subband_line (layout_in b) steps smr (n - 6))
  unfolding accepted_page
  in_rows n h l =
      in_front (head ++ body) foot n (omega (arith, until_foot))
      ∙ in_back head body n (n - 6) (omega arith)
      ∙ tabulated_at b.sblimit (subband_line (layout_in b) steps smr) (n - 6) [] l

  pub in_foot : (n : ℕ) → 6 ≤ n → b.sblimit ≤ n - 6 → slice_get (accepted_page b offered demand steps left smr) n ≡ slice_get foot (n - 6 - b.sblimit)
  unfolding accepted_page
  in_foot n h l = in_back (head ++ body) foot n (n - 6 - b.sblimit) (omega (arith, until_foot))
