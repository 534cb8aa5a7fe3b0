-- The answer from the check's: its refusal, or what the writer makes of the record with the chosen scfsi.
use Rattle.std.specs.Prelude.{Err}
use mathlib.Core.Path.{◌≡◌, refl, sym, ap, ◌∙◌}
use mathlib.Core.Bool.{false, true≢false}
use mathlib.Core.List.{List, []}
use Prim.Native.Nat.{ℕ}
use lib.Dec.{eqb}
use borrow.Author.Tests.{eq-eqb}
use Rattle.header.specs.declared.FrameHeader.{FrameHeader}
use Rattle.audio_data.specs.declared.Scfsi.{Scfsi}
use Rattle.side_info.specs.declared.SideInfo.{SideInfo}
use Rattle.encoder_bit_budget.proofs.BudgetLaws.{apart}
use Rattle.record_check.specs.Check.{CheckAnswer, about_none, check_of}
use Rattle.record_checker.specs.Errors.{error_in}
use Rattle.record_checker.specs.declared.RecordError.{RecordError}
use Rattle.record_checker.specs.declared.RecordError.TheVariants.{Header, Slot}
use Rattle.record_checker.specs.declared.SlotError.TheVariants.{NotCarried, StepsDiffer, IndicesDiffer}
use Rattle.side_info_writer.specs.Written.{WrittenAnswer, written, written_of}
use Rattle.canonical_form.specs.Fewest.{chosen}
use Rattle.canonical_form.specs.Canonical.{canonical_of, with_scfsi}
use Rattle.canonical_form.proofs.NumberLaws.{is_refused, is_written}
use Rattle.canonical_writer.specs.declared.CanonicalError.TheVariants.{Check}
use Rattle.canonical_writer.specs.Errors.{canonical_in}

-- no refusal of the check has the number of a record that passes
refusing : (e : RecordError) → eqb (error_in e).number 0 ≡ false
refusing (Header e) = apart e
refusing (Slot NotCarried sb ch) = refl
refusing (Slot StepsDiffer sb ch) = refl
refusing (Slot IndicesDiffer sb ch) = refl

module _ (h : FrameHeader) (s : SideInfo) where
  pub from_refused : (e : RecordError) → error_in e ≡ check_of h s → canonical_in (Err (Check e)) ≡ canonical_of h s
  from_refused e checked =
      let n = ap (λ (r : CheckAnswer). r.number) checked in
      ap (λ (m : ℕ). written m []) n ∙ sym (is_refused h s (λ z. true≢false (sym (eq-eqb _ 0 (n ∙ z)) ∙ refusing e)))

  pub from_written : (slots : List Scfsi) (w : WrittenAnswer) → about_none 0 ≡ check_of h s → slots ≡ chosen s
      → w ≡ written_of h (with_scfsi slots s) → w ≡ canonical_of h s
  from_written slots w passed scfsi made =
      made ∙ ap (λ (k : List Scfsi). written_of h (with_scfsi k s)) scfsi ∙ sym (is_written h s (ap (λ (r : CheckAnswer). r.number) (sym passed)))
