-- Laws of the page: which it is, and where a line stands on it.
use Rattle.std.proofs.Common.{◌≡◌, refl, ap, ◌∙◌, Bool, List, [], ◌∷◌, ◌++◌, map, ℕ, ◌+◌, ◌-◌, ◌≤◌, ◌<◌, length, arith}
use Rattle.std.specs.Prelude.{Some, slice_get, option_map, get_or}
use Rattle.std.proofs.lemmas.Option.{slice_get-map, slice_get-get_or}
use lib.ListN.{length-append, length-map}
use borrow.Author.Tests.{eq-eqb, ne_eqb}
use Rattle.header.specs.declared.FrameHeader.{FrameHeader}
use Rattle.header.specs.Header.{free_format}
use Rattle.encoder_bit_budget.specs.declared.FixedBitBudget.{FixedBitBudget}
use Rattle.encoder_bit_budget.specs.declared.BitAllocError.{BitAllocError}
use Rattle.encoder_bit_budget.specs.declared.BitAllocError.TheVariants.{RateOffLadder, NoBitallocTable, ZeroSampleRate, InsufficientFrameSize}
use Rattle.encoder_bit_budget.specs.Budget.{plain, error_number, budget_of, layout_in}
use Rattle.layout.specs.declared.Layout.{Layout}
use Rattle.side_info.specs.declared.SideInfo.{SideInfo}
use Rattle.side_info.specs.SideInfo.{active_slots}
use Rattle.side_info_reading.specs.Read.{ReadAnswer}
use Rattle.side_info_reader.specs.declared.ReadError.{ReadError}
use Rattle.side_info_reader.specs.declared.ReadError.TheVariants.{Header, EndOfBytes, ReservedIndex}
use Rattle.side_info_reader.specs.Errors as reader
use Rattle.text_line.proofs.PageLaws.{in_front, in_back}
use Rattle.plan_lines.specs.Refusal.{refusal_line}
use Rattle.side_page.specs.Page.{head_of, row_of, foot_of, accepted_page, refused_line, page_by, side_page}

-- ---- where a line stands on the page of side information that was read

module _ (free : Bool) (b : FixedBitBudget) (slots : List ℕ) (s : SideInfo) (bits : ℕ) where
  abbrev head : List (List ℕ)
  head = head_of free b

  abbrev body : List (List ℕ)
  body = map (row_of s) slots

  until_foot : length (head ++ body) ≡ 3 + length slots
  until_foot = length-append head body ∙ ap (λ (n : ℕ). 3 + n) (length-map slots (row_of s))

  pub in_head : (n : ℕ) → n < 3 → slice_get (accepted_page free b slots s bits) n ≡ slice_get (head_of free b) n
  unfolding accepted_page
  in_head n h = in_front (head ++ body) (foot_of bits) n (omega (arith, until_foot)) ∙ in_front head body n h

  pub in_rows : (n : ℕ) → 3 ≤ n → n - 3 < length slots
      → slice_get (accepted_page free b slots s bits) n ≡ Some (row_of s (get_or slots (n - 3) 0))
  unfolding accepted_page
  in_rows n h l =
      in_front (head ++ body) (foot_of bits) n (omega (arith, until_foot))
      ∙ in_back head body n (n - 3) (omega arith)
      ∙ slice_get-map (row_of s) slots (n - 3)
      ∙ ap (option_map (row_of s)) (slice_get-get_or slots (n - 3) 0 l)

  pub in_foot : (n : ℕ) → 3 ≤ n → length slots ≤ n - 3
      → slice_get (accepted_page free b slots s bits) n ≡ slice_get (foot_of bits) (n - 3 - length slots)
  unfolding accepted_page
  in_foot n h l = in_back (head ++ body) (foot_of bits) n (n - 3 - length slots) (omega (arith, until_foot))

-- ---- which page it is

module _ (h : FrameHeader) (given : ℕ) (r : ReadAnswer) where
  opened : (b : FixedBitBudget) → r.number ≡ 0
      → accepted_page (free_format h) b (active_slots (layout_in b) r.info.steps) r.info r.bits_used ≡ page_by h b given r
  unfolding page_by
  opened b z = rw (eq-eqb r.number 0 z)

  pub page_accepted : (b : FixedBitBudget) → b ≡ (budget_of (plain h 0)).budget → r.number ≡ 0 → (l : Layout) → l ≡ layout_in b
      → (slots : List ℕ) → slots ≡ active_slots l r.info.steps → accepted_page (free_format h) b slots r.info r.bits_used ≡ side_page h given r
  unfolding side_page
  page_accepted b e z l g slots a =
      ap (λ (xs : List ℕ). accepted_page (free_format h) b xs r.info r.bits_used) (a ∙ ap (λ (l : Layout). active_slots l r.info.steps) g)
      ∙ opened b z
      ∙ ap (λ (b : FixedBitBudget). page_by h b given r) e

  pub page_refused : (t : List ℕ) → (r.number ≡ 0 → ⊥) → t ≡ refused_line h r.number given → t ∷ [] ≡ side_page h given r
  unfolding side_page page_by
  page_refused t z e = rw (ne_eqb r.number 0 z) (ap (λ (s : List ℕ). s ∷ []) e)

-- ---- a header that is refused

pub header_refused : (h : FrameHeader) (given : ℕ) (e : BitAllocError) → refusal_line h (error_number e) 0 0 0 ≡ refused_line h (error_number e) given
unfolding refused_line
header_refused h given RateOffLadder = refl
header_refused h given NoBitallocTable = refl
header_refused h given ZeroSampleRate = refl
header_refused h given (InsufficientFrameSize cb fixed banc) = refl

-- no refusal has the number 0
pub refused_number : (e : ReadError) → reader.error_number e ≡ 0 → ⊥
refused_number (Header RateOffLadder) z = omega arith
refused_number (Header NoBitallocTable) z = omega arith
refused_number (Header ZeroSampleRate) z = omega arith
refused_number (Header (InsufficientFrameSize cb fixed banc)) z = omega arith
refused_number EndOfBytes z = omega arith
refused_number ReservedIndex z = omega arith
