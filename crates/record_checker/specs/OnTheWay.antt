-- What the functions find on the way to the answer.
-- For the contracts of private functions alone: nothing that a caller has to believe stands here.
use Rattle.std.specs.Prelude.{ℕ, Result, Ok, Err}
use Rattle.header.specs.Questions.{first_no}
use Rattle.layout.specs.declared.Layout.{Layout}
use Rattle.side_info.specs.declared.SideInfo.{SideInfo}
use Rattle.record_check.specs.Check.{CheckAnswer, about_none, slots_asked}
use Rattle.record_checker.specs.declared.SlotError.{SlotError}
use Rattle.record_checker.specs.Errors.{slot_number}

-- 0 where a slot passes
abbrev pub refusal_number : {X : Type 0} → Result X SlotError → ℕ
refusal_number (Ok x) = 0
refusal_number (Err e) = slot_number e

-- the answer in the layout of an accepted header
unfoldable pub check_under : Layout → SideInfo → CheckAnswer
unfolding slots_asked
check_under l s = first_no (about_none 0) (slots_asked l s)
