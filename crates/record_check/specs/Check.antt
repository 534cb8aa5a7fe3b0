-- The check of a record of side information: its questions in their order, and what `check_record` promises.
use Rattle.std.specs.Prelude.{ℕ, ◌+◌, ◌*◌, ◌/◌, ◌%◌, ◌<◌, ◌≡◌, ◌||◌, ◌⊎◌, eqb, get_or, Option, None, Some}
use mathlib.Core.List.{List, [], ◌∷◌, ◌++◌, flat_map}
use Rattle.tables.specs.Search.{find}
use Rattle.tables.specs.Listed.{tabulate}
use Rattle.header.specs.declared.FrameHeader.{FrameHeader}
use Rattle.header.specs.Questions.{Question, first_no, number, telling}
use Rattle.layout.specs.declared.Layout.{Layout}
use Rattle.layout.specs.declared.AllocationField.{AllocationField}
use Rattle.layout.specs.Slots.{slot_of, channel_in, subband_in}
use Rattle.layout.specs.Layout.{fields_of, serves}
use Rattle.audio_data.specs.Scfsi.{agreeing}
use Rattle.encoder_bit_budget.specs.Budget.{header_asked}
use Rattle.side_info.specs.declared.SideInfo.{SideInfo}
use Rattle.side_info.specs.SideInfo.{scfsi_in, scalefactors_in, header_layout, shared_asked}
use Rattle.record_check.specs.Together.{StepsCarried, StepsShared, IndicesShared, SlotHolds, HangsTogether}

-- ---- the questions of a slot

-- question 17, asked only where the layout does not carry the slot: its steps are 0
abbrev pub outside_asked : SideInfo → ℕ → Question ℕ
outside_asked s slot = record { yes = eqb (get_or s.steps slot 0) 0; otherwise = 17 }

-- question 18, asked only where the layout carries the slot: if it is active, which it is where its steps are not 0, the indices that its scfsi shares are
-- equal
abbrev pub sharing_asked : SideInfo → ℕ → Question ℕ
sharing_asked s slot = record { yes = eqb (get_or s.steps slot 0) 0 || agreeing (scfsi_in s slot) (scalefactors_in s slot); otherwise = 18 }

-- A slot that no field serves is asked 17, so that 17 never meets the other two at one slot. Where a field serves the slot, 6 is asked of the field, as the
-- writer asks it, and then 18 of the slot. A shared field is asked at both of its slots, and its answers are the same: a 6 is always given at channel 0.
abbrev pub asked_by : SideInfo → ℕ → Option AllocationField → List (Question ℕ)
asked_by s slot None = outside_asked s slot ∷ []
asked_by s slot (Some x) = shared_asked s x ∷ sharing_asked s slot ∷ []

-- what a slot is asked in a layout
unfoldable pub slot_asked : Layout → SideInfo → ℕ → List (Question ℕ)
slot_asked l s slot = asked_by s slot (find (serves (channel_in slot) (subband_in slot)) (fields_of l))

-- ---- the questions of all slots, behind the header's

-- the 64 slots by rising subband, channel 0 first
unfoldable pub in_order : List ℕ
in_order = tabulate 64 (λ k. slot_of (k % 2) (k / 2))

-- an answer: its number, and the subband and the channel that it is about; beside a header's number, and beside 0, both are 0
pub record CheckAnswer : Type 0 where
  pub number : ℕ
  pub subband : ℕ
  pub channel : ℕ

abbrev pub checked : ℕ → ℕ → ℕ → CheckAnswer
checked n sb ch = record { number = n; subband = sb; channel = ch }

abbrev pub about_slot : ℕ → ℕ → CheckAnswer
about_slot slot n = checked n (subband_in slot) (channel_in slot)

abbrev pub about_none : ℕ → CheckAnswer
about_none n = checked n 0 0

-- slot by slot
unfoldable pub slots_asked : Layout → SideInfo → List (Question CheckAnswer)
unfolding flat_map slot_asked in_order
slots_asked l s = flat_map (λ slot. telling (about_slot slot) (slot_asked l s slot)) in_order

-- the header's questions, then those of the slots in the header's layout
abbrev pub check_asked : FrameHeader → SideInfo → List (Question CheckAnswer)
check_asked h s = telling about_none (header_asked h) ++ slots_asked (header_layout h) s

unfoldable pub check_of : FrameHeader → SideInfo → CheckAnswer
unfolding slots_asked
check_of h s = first_no (about_none 0) (check_asked h s)

-- ---- what `check_record` promises

-- the slot that an answer names
abbrev pub slot_named : CheckAnswer → ℕ
slot_named r = slot_of r.channel r.subband

-- the number of the first of the three that fails at a slot, in the order 17, 6, 18
abbrev pub FailsBy : Layout → SideInfo → ℕ → ℕ → Type 0
FailsBy l s slot n =
    ((n ≡ 17) × (StepsCarried l s slot → ⊥))
    ⊎ (((n ≡ 6) × StepsCarried l s slot × (StepsShared l s slot → ⊥))
    ⊎ ((n ≡ 18) × StepsCarried l s slot × StepsShared l s slot × (IndicesShared l s slot → ⊥)))

-- when a slot has its turn: by rising subband, channel 0 first
abbrev pub turn_of : ℕ → ℕ
turn_of slot = 2 * subband_in slot + channel_in slot

pub record CheckIs (h : FrameHeader) (s : SideInfo) (r : CheckAnswer) : Type 0 where
  -- the whole answer; what follows says it again without the list of the slots' questions
  pub whole : r ≡ check_of h s
  -- a header that is refused has its number, and no place
  pub refused : (number (header_asked h) ≡ 0 → ⊥) → r ≡ checked (number (header_asked h)) 0 0
  -- under an accepted header the number is 0 exactly where all three hold for all 64 slots, and then there is no place
  pub passes : number (header_asked h) ≡ 0 → HangsTogether (header_layout h) s → r ≡ checked 0 0 0
  pub together : r.number ≡ 0 → HangsTogether (header_layout h) s
  -- and otherwise the place is the first slot in turn at which one of the three fails, and the number that of the first of them that fails there
  pub fails : number (header_asked h) ≡ 0 → (r.number ≡ 0 → ⊥) → FailsBy (header_layout h) s (slot_named r) r.number
  pub first : number (header_asked h) ≡ 0 → (slot : ℕ) → slot < 64 → turn_of slot < turn_of (slot_named r) → SlotHolds (header_layout h) s slot
  -- the subband and the channel of one of the 64 slots; a 6 is at channel 0
  pub subband_small : r.subband < 32
  pub channel_small : r.channel < 2
  pub six : r.number ≡ 6 → r.channel ≡ 0
