-- When a record of side information hangs together: three conditions on each of its 64 slots, in no order. Fields, and the slots that they serve, are
-- those of the layout (layout/specs/Layout.antt); which slots are active and which idle, side_info/specs/SideInfo.antt says.
use Rattle.std.specs.Prelude.{ℕ, ◌<◌, ◌≡◌, true, false, get_or, Option, Some}
use Rattle.tables.specs.Search.{one_of}
use Rattle.layout.specs.declared.Layout.{Layout}
use Rattle.layout.specs.Slots.{channel_in, subband_in}
use Rattle.layout.specs.Layout.{served_by, slots_of}
use Rattle.audio_data.specs.Scfsi.{Agrees}
use Rattle.side_info.specs.declared.SideInfo.{SideInfo}
use Rattle.side_info.specs.SideInfo.{scfsi_in, scalefactors_in, active_slots}

-- `served_by` by the slot's number
abbrev pub field_serving : Layout → ℕ → Option ℕ
field_serving l slot = served_by l (channel_in slot) (subband_in slot)

module _ (l : Layout) (s : SideInfo) (slot : ℕ) where
  -- steps only where the layout carries the slot: the syntax of ISO/IEC 11172-3 2.4.1.6 has no field for another
  abbrev pub StepsCarried : Type 0
  StepsCarried = one_of (slots_of l) slot ≡ false → get_or s.steps slot 0 ≡ 0

  -- one step count in a shared field, since 2.4.1.6 sends one allocation for both channels from the bound up: any other slot that the slot's field serves
  -- has the same steps. It fails at both slots of a shared field or at none.
  abbrev pub StepsShared : Type 0
  StepsShared = (f other : ℕ) → field_serving l slot ≡ Some f → field_serving l other ≡ Some f → get_or s.steps other 0 ≡ get_or s.steps slot 0

  -- indices equal wherever the scfsi of an active slot says that they are shared (2.4.2.6); of an idle slot nothing is asked
  abbrev pub IndicesShared : Type 0
  IndicesShared = one_of (active_slots l s.steps) slot ≡ true → Agrees (scfsi_in s slot) (scalefactors_in s slot)

  -- all three
  pub record SlotHolds : Type 0 where
    pub carried : StepsCarried
    pub shared : StepsShared
    pub agrees : IndicesShared

-- of all 64 slots
abbrev pub HangsTogether : Layout → SideInfo → Type 0
HangsTogether l s = (slot : ℕ) → slot < 64 → SlotHolds l s slot
