-- What the result of the check stands for.
use Rattle.std.specs.Prelude.{ℕ, List, [], ◌∷◌, Result, Ok, Err}
use Rattle.encoder_bit_budget.specs.Budget.{error_number}
use Rattle.record_check.specs.Check.{CheckAnswer, checked, about_none}
use Rattle.record_checker.specs.declared.SlotError.{SlotError}
use Rattle.record_checker.specs.declared.SlotError.TheVariants.{NotCarried, StepsDiffer, IndicesDiffer}
use Rattle.record_checker.specs.declared.RecordError.{RecordError}
use Rattle.record_checker.specs.declared.RecordError.TheVariants.{Header, Slot}

-- the number of the question that a slot's error says no to
abbrev pub slot_number : SlotError → ℕ
slot_number NotCarried = 17
slot_number StepsDiffer = 6
slot_number IndicesDiffer = 18

abbrev pub error_in : RecordError → CheckAnswer
error_in (Header e) = about_none (error_number e)
error_in (Slot e sb ch) = checked (slot_number e) sb ch

-- the subband and the channel that an answer is about
abbrev pub place_in : CheckAnswer → List ℕ
place_in r = r.subband ∷ r.channel ∷ []

abbrev pub check_in : {X : Type 0} → Result X RecordError → CheckAnswer
check_in (Ok x) = about_none 0
check_in (Err e) = error_in e
