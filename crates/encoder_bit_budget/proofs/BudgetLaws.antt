-- Each answer of the budget from what the questions found, and the bounds of an accepted one.
use Rattle.std.specs.Prelude.{Option, None, Some, is_some, ok_or, Result, Ok, Err}
use mathlib.Core.Path.{◌≡◌, refl, sym, ap, ap₂, ◌∙◌, subst}
use mathlib.Core.Bool.{Bool, true, false, not, cond, true≢false}
use mathlib.Core.List.{[], ◌∷◌}
use Prim.Native.Nat.{ℕ, zero, suc, ◌*◌, ◌≤◌}
use native.Mathlib.Nat.{mul-le-mul_right, div-le_self}
use native.Mathlib.Omega.{arith}
use lib.Dec.{T, eqb, lit≤}
use borrow.Author.Tests.{le-leb, eq-eqb}
use Rattle.header.specs.declared.FrameHeader.{FrameHeader}
use Rattle.header.specs.declared.Mode.{Mode}
use Rattle.header.specs.declared.Mode.TheVariants.{Stereo, JointStereo, DualChannel, SingleChannel}
use Rattle.header.specs.Questions.{first_no, number}
use Rattle.header.specs.Header.{channels_of, bound_of, frame_bytes, size_of, frame_size, sample_rate_asked}
use Rattle.header.proofs.QuestionLaws.{said_yes, said_no, refusing, all_yes, some_no}
use Rattle.ladder.specs.Ladder.{on_ladder}
use Rattle.ladder.proofs.LadderLaws.{at_most}
use Rattle.bitalloc.specs.declared.BitAllocTable.{BitAllocTable}
use Rattle.bitalloc.specs.declared.BitAllocTable.TheVariants.{B2a, B2b, B2c, B2d, B1Lsf}
use Rattle.tables.specs.Sum.{sum_below}
use Rattle.bitalloc.specs.Tables.{nbal_of, sblimit_of}
use Rattle.table_selection.specs.Select.{table_of}
use Rattle.bitalloc.proofs.RowLaws.{sblimit_small}
use Rattle.layout.specs.declared.Layout.{Layout}
use Rattle.layout.specs.Layout.{fields_at, fields_below, fields_of, limit_of, layout_of, sum_over}
use Rattle.layout.proofs.HeaderLaws.{bound_small}
use Rattle.layout.proofs.SumLaws.{sum_append, two_at_most, counted}
use Rattle.encoder_bit_budget.specs.declared.Request.{Request}
use Rattle.encoder_bit_budget.specs.declared.FixedBitBudget.{FixedBitBudget}
use Rattle.encoder_bit_budget.specs.declared.BitAllocError.{BitAllocError}
use Rattle.encoder_bit_budget.specs.declared.BitAllocError.TheVariants.{RateOffLadder, NoBitallocTable, ZeroSampleRate, InsufficientFrameSize}
use Rattle.encoder_bit_budget.specs.Budget.{plain, bit_rate_asked, table_asked, size_asked, header_asked, error_number, crc_bits, allocation_bits, budget_with, budget_under, layout_in, budget_in, budget_of, accepted_under, Bounded, BudgetIs}

-- ---- an `Option` that was made a `Result`

pub present : {T E : Type 0} (o : Option T) (e : E) (x : T) → Ok x ≡ ok_or o e → o ≡ Some x
present None e x q = cc
present (Some y) e x q = cc

pub missing : {T E : Type 0} (o : Option T) (e x : E) → Err x ≡ ok_or o e → (o ≡ None) × (x ≡ e)
missing None e x q = (refl, cc)
missing (Some y) e x q = (cc, cc)

-- ---- what the frame's size tells

pub record Sized (h : FrameHeader) (n : ℕ) : Type 0 where
  pub rated : eqb h.sample_rate 0 ≡ false
  pub many : n ≡ frame_bytes h

pub sized : (h : FrameHeader) (n : ℕ) → size_of (Some n) ≡ frame_size h → Sized h n
unfolding frame_size
sized h n e = go (eqb h.sample_rate 0) refl
  where
    go : (b : Bool) → eqb h.sample_rate 0 ≡ b → Sized h n
    go true p = let z = ap (λ s. s.answer) e in absurd (omega (arith, rw p at z))
    go false p = record { rated = p; many = rw p at (ap (λ s. s.bytes) e) }

pub not_sized : (h : FrameHeader) → size_of None ≡ frame_size h → eqb h.sample_rate 0 ≡ true
unfolding frame_size
not_sized h e = go (eqb h.sample_rate 0) refl
  where
    go : (b : Bool) → eqb h.sample_rate 0 ≡ b → eqb h.sample_rate 0 ≡ true
    go true p = p
    go false p = let z = ap (λ s. s.answer) e in absurd (omega (arith, rw p at z))

-- at 384 kbit/s and 1 Hz a frame would have 55,296,000 bytes, and one more with padding; no table is selected there, so that accepted ones are shorter
pub few_bytes : (h : FrameHeader) (n : ℕ) → on_ladder h ≡ true → n ≡ frame_bytes h → n ≤ 55_296_001
few_bytes h n on many = omega (arith, at_most h on, div-le_self (144 * h.bit_rate) h.sample_rate, one_more h.padding)
  where
    one_more : (b : Bool) → cond b 1 0 ≤ 1
    one_more true = lit≤ tt
    one_more false = lit≤ tt

-- ---- what the header's questions are answered

module _ (h : FrameHeader) where
  pub off_ladder : on_ladder h ≡ false → number (header_asked h) ≡ 16
  unfolding header_asked
  off_ladder e = said_no 0 (bit_rate_asked h) (table_asked h ∷ sample_rate_asked h ∷ size_asked h ∷ []) e

  module _ (on : on_ladder h ≡ true) where
    after_rate : number (header_asked h) ≡ number (table_asked h ∷ sample_rate_asked h ∷ size_asked h ∷ [])
    unfolding header_asked
    after_rate = said_yes 0 (bit_rate_asked h) (table_asked h ∷ sample_rate_asked h ∷ size_asked h ∷ []) on

    pub no_table : table_of h ≡ None → number (header_asked h) ≡ 1
    no_table e = after_rate ∙ said_no 0 (table_asked h) (sample_rate_asked h ∷ size_asked h ∷ []) (ap is_some e)

    module _ (t : BitAllocTable) (named : table_of h ≡ Some t) where
      after_table : number (header_asked h) ≡ number (sample_rate_asked h ∷ size_asked h ∷ [])
      after_table = after_rate ∙ said_yes 0 (table_asked h) (sample_rate_asked h ∷ size_asked h ∷ []) (ap is_some named)

      pub no_sample_rate : eqb h.sample_rate 0 ≡ true → number (header_asked h) ≡ 2
      no_sample_rate e = after_table ∙ said_no 0 (sample_rate_asked h) (size_asked h ∷ []) (ap not e)

      -- question 3 is answered yes
      pub all_asked : eqb h.sample_rate 0 ≡ false → number (header_asked h) ≡ 0
      all_asked rated =
          after_table
          ∙ said_yes 0 (sample_rate_asked h) (size_asked h ∷ []) (ap not rated)
          ∙ said_yes 0 (size_asked h) [] (le-leb (frame_bytes h) _ (omega (arith, few_bytes h (frame_bytes h) on refl)))

  -- ---- so every header has one of four answers

  pub data Answered : Type 0 where
    off : number (header_asked h) ≡ 16 → Answered
    untabled : number (header_asked h) ≡ 1 → Answered
    unrated : number (header_asked h) ≡ 2 → Answered
    served : (t : BitAllocTable) → table_of h ≡ Some t → number (header_asked h) ≡ 0 → Answered

  pub answered : Answered
  answered = go (on_ladder h) refl (table_of h) refl (eqb h.sample_rate 0) refl
    where
      go : (on : Bool) → on_ladder h ≡ on → (o : Option BitAllocTable) → table_of h ≡ o → (z : Bool) → eqb h.sample_rate 0 ≡ z → Answered
      go false l o n z r = off (off_ladder l)
      go true l None n z r = untabled (no_table l n)
      go true l (Some t) n true r = unrated (no_sample_rate l t n r)
      go true l (Some t) n false r = served t n (all_asked l t n r)

-- each of them refuses by a number that is not 0
pub refusing_header : (h : FrameHeader) → T (refusing (header_asked h))
unfolding header_asked
refusing_header h = tt

-- no header is answered by question 3, whatever is asked behind: at a rate on its ladder a frame's bits fit 32 bits
pub never_too_large : (h : FrameHeader) (behind : ℕ) → (behind ≡ 3 → ⊥) → first_no behind (header_asked h) ≡ 3 → ⊥
never_too_large h behind other e = go (answered h)
  where
    -- a number of the header's own decides
    own : (n : ℕ) → number (header_asked h) ≡ n → eqb n 0 ≡ false → n ≡ 3
    own n is apart = sym is ∙ sym (some_no behind (header_asked h) (ap (λ (m : ℕ). eqb m 0) is ∙ apart)) ∙ e

    go : Answered h → ⊥
    go (off n) = let z = own 16 n refl in omega arith
    go (untabled n) = let z = own 1 n refl in omega arith
    go (unrated n) = let z = own 2 n refl in omega arith
    go (served t m n) = other (sym (all_yes behind (header_asked h) (refusing_header h) n) ∙ e)

-- ---- the bounds of an accepted budget

-- each subband's width is counted twice at most
twice : (l : Layout) (n : ℕ) → sum_over (λ x. nbal_of l.table x.subband) (fields_below l n) ≤ 2 * sum_below n (nbal_of l.table)
unfolding fields_below
twice l zero = lit≤ tt
twice l (suc n) =
    let a = sum_append (λ x. nbal_of l.table x.subband) (fields_below l n) (fields_at l n) in
    let c = counted (nbal_of l.table) l n in
    let m = mul-le-mul_right (nbal_of l.table n) (two_at_most l n) in
    let b = twice l n in
    omega arith

widths : (t : BitAllocTable) → sum_below (sblimit_of t) (nbal_of t) ≤ 94
unfolding nbal_of
widths B2a = lit≤ tt
widths B2b = lit≤ tt
widths B2c = lit≤ tt
widths B2d = lit≤ tt
widths B1Lsf = lit≤ tt

-- the allocation fields of any layout
pub allocation_small : (l : Layout) → allocation_bits l ≤ 188
unfolding allocation_bits fields_of
allocation_small l = let b = twice l (limit_of l) in omega (arith, widths l.table)

crc_small : (b : Bool) → cond b 0 16 ≤ 16
crc_small true = lit≤ tt
crc_small false = lit≤ tt

channels_small : (m : Mode) → channels_of m ≤ 2
channels_small Stereo = lit≤ tt
channels_small JointStereo = lit≤ tt
channels_small DualChannel = lit≤ tt
channels_small SingleChannel = lit≤ tt

bounds : (q : Request) (t : BitAllocTable) → Bounded (budget_under q t)
unfolding budget_under budget_with layout_of
bounds q t = record {
  fixed = omega (arith, crc_small q.header.protection_bit, allocation_small (layout_of q.header t));
  sblimit = sblimit_small t;
  bound = bound_small q.header.mode (bound_of q.header.mode_extension) (sblimit_of t);
  channels = channels_small q.header.mode;
}

-- ---- as the code fills it in

pub filled : (cb bcrc bbal sblimit : ℕ) (l : Layout) (protection-bit : Bool) → bcrc ≡ crc_bits protection-bit → bbal ≡ allocation_bits l → sblimit ≡ limit_of l
    → record { cb = cb; bhdr = 32; bcrc = bcrc; bbal = bbal; sblimit = sblimit; bound = l.bound; channels = l.channels; table = l.table }
    ≡ budget_with cb (crc_bits protection-bit) l
unfolding budget_with
filled cb bcrc bbal sblimit l protection-bit c b s =
    λ i. record { cb = cb; bhdr = 32; bcrc = c i; bbal = b i; sblimit = s i; bound = l.bound; channels = l.channels; table = l.table }

pub under : (q : Request) (t : BitAllocTable) (l : Layout) (n : ℕ) (b : FixedBitBudget) → n ≡ frame_bytes q.header → l ≡ layout_of q.header t
    → b ≡ budget_with (8 * n) (crc_bits q.header.protection_bit) l → b ≡ budget_under q t
unfolding budget_under
under q t l n b e d f = f ∙ ap₂ (λ (m : ℕ) (l : Layout). budget_with (8 * m) (crc_bits q.header.protection_bit) l) e d

-- ---- the answers by the number

-- no refusal has the number 0
pub apart : (e : BitAllocError) → eqb (error_number e) 0 ≡ false
apart RateOffLadder = refl
apart NoBitallocTable = refl
apart ZeroSampleRate = refl
apart (InsufficientFrameSize cb fixed banc) = refl

module _ (q : Request) where
  refused_is : (e : BitAllocError) → number (header_asked q.header) ≡ error_number e → budget_in (Err e) ≡ budget_of q
  unfolding budget_of
  refused_is RateOffLadder n = rw n
  refused_is NoBitallocTable n = rw n
  refused_is ZeroSampleRate n = rw n
  refused_is (InsufficientFrameSize cb fixed banc) n = rw n

  no_budget_lem : (e : BitAllocError) (b : FixedBitBudget) → Err e ≡ Ok b → Bounded b
  no_budget_lem e b p = absurd (let z = ap (λ r. (budget_in r).answer) p in true≢false (sym (eq-eqb (error_number e) 0 z) ∙ apart e))

  pub refused : (e : BitAllocError) → number (header_asked q.header) ≡ error_number e → BudgetIs q (Err e)
  refused e n = record { whole = refused_is e n; bounded = no_budget_lem e }

  pub accepted : (t : BitAllocTable) (b : FixedBitBudget) → table_of q.header ≡ Some t → number (header_asked q.header) ≡ 0 → b ≡ budget_under q t
      → BudgetIs q (Ok b)
  unfolding budget_of
  accepted t b named n p = record {
    whole = rw (n, named, p);
    bounded = λ d r. subst Bounded (sym p ∙ held r) (bounds q t);
  }
    where
      held : {c d : FixedBitBudget} → ◌≡◌ {A = Result FixedBitBudget BitAllocError} (Ok c) (Ok d) → c ≡ d
      held e = cc

  -- the ancillary bits are not read
  same_under : (n : ℕ) (o : Option BitAllocTable) → accepted_under (plain q.header 0) n o ≡ accepted_under q n o
  unfolding budget_under
  same_under zero None = refl
  same_under zero (Some t) = refl
  same_under (suc n) o = refl

  pub same_budget : (r : Result FixedBitBudget BitAllocError) → BudgetIs (plain q.header 0) r → BudgetIs q r
  unfolding budget_of
  same_budget r b =
      let n = number (header_asked q.header) in
      record { whole = b.whole ∙ (λ i. record { answer = n; budget = same_under n (table_of q.header) i }); bounded = b.bounded }

  -- ---- what an entry that calls for the budget learns

  pub answer_is : (budget_of q).answer ≡ number (header_asked q.header)
  unfolding budget_of
  answer_is = refl

  table_of_lem : (b : FixedBitBudget) (t : BitAllocTable) → b ≡ budget_under q t → b.table ≡ t
  unfolding budget_under budget_with layout_of
  table_of_lem b t r = ap (λ b. b.table) r

  module _ (b : FixedBitBudget) (ok : budget_in (Ok b) ≡ budget_of q) where
    -- an accepted budget is the one under its own table, which is the one selected
    named : (table_of q.header ≡ Some b.table) × (b ≡ budget_under q b.table)
    unfolding budget_of
    named = go (answered q.header)
      where
        z : 0 ≡ number (header_asked q.header)
        z = ap (λ a. a.answer) ok

        w : b ≡ accepted_under q 0 (table_of q.header)
        w = subst (λ (n : ℕ). b ≡ accepted_under q n (table_of q.header)) (sym z) (ap (λ a. a.budget) ok)

        go : Answered q.header → (table_of q.header ≡ Some b.table) × (b ≡ budget_under q b.table)
        go (off n) = let e = z ∙ n in absurd (omega arith)
        go (untabled n) = let e = z ∙ n in absurd (omega arith)
        go (unrated n) = let e = z ∙ n in absurd (omega arith)
        go (served t p n) =
            let r = subst (λ o. b ≡ accepted_under q 0 o) p w in
            let s = sym (table_of_lem b t r) in
            (p ∙ ap Some s, r ∙ ap (budget_under q) s)

    pub table_is : table_of q.header ≡ Some b.table
    table_is = named.0

    pub accepted_is : b ≡ budget_under q b.table
    accepted_is = named.1

    -- its fields are those of the header's layout
    pub layout_is : layout_in b ≡ layout_of q.header b.table
    unfolding budget_under budget_with layout_of
    layout_is = ap layout_in accepted_is
