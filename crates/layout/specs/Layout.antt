-- The layout of a frame's side information, in the order of ISO/IEC 11172-3 2.4.1.6: by rising subband, channel 0 first.
-- An allocation field holds the bit allocation of a subband. Below the bound each channel has a field of its own; from the bound up one field
-- serves both channels, which share their samples (intensity stereo).
use Rattle.std.specs.Prelude.{ℕ, zero, suc, ◌+◌, min, ◌≤◌, ◌<◌, ◌≡◌, Bool, true, false, cond, ◌&&◌, List, [], ◌∷◌, ◌++◌, map, eqb, ltb, length, get_or, Option, Some}
use Rattle.tables.specs.Search.{place, one_of}
use Rattle.header.specs.declared.FrameHeader.{FrameHeader}
use Rattle.header.specs.declared.Mode.{Mode}
use Rattle.header.specs.declared.Mode.TheVariants.{Stereo, JointStereo, DualChannel, SingleChannel}
use Rattle.header.specs.Header.{channels_of, bound_of}
use Rattle.bitalloc.specs.declared.BitAllocTable.{BitAllocTable}
use Rattle.bitalloc.specs.Tables.{sblimit_of}
use Rattle.layout.specs.declared.Layout.{Layout}
use Rattle.layout.specs.declared.AllocationField.{AllocationField}
use Rattle.layout.specs.Slots.{slot_of}

-- ---- the layout of a header's frame

-- the bound (2.4.2.3, mode_extension): in joint stereo the extension's, but at most sblimit, since no subband above it is carried; in the other
-- modes no subband is shared
abbrev pub shared_from : Mode → ℕ → ℕ → ℕ
shared_from Stereo extension sblimit = sblimit
shared_from JointStereo extension sblimit = min extension sblimit
shared_from DualChannel extension sblimit = sblimit
shared_from SingleChannel extension sblimit = sblimit

unfoldable pub layout_of : FrameHeader → BitAllocTable → Layout
layout_of h t = record {
  table = t;
  bound = shared_from h.mode (bound_of h.mode_extension) (sblimit_of t);
  channels = channels_of h.mode;
}

-- how many subbands a layout carries
abbrev pub limit_of : Layout → ℕ
limit_of l = sblimit_of l.table

-- how many channels it has: any number but 1 counts as 2
abbrev pub channel_count : Layout → ℕ
channel_count l = cond (eqb l.channels 1) 1 2

-- ---- the list of fields

-- a channel's own field, and one that serves both channels
abbrev pub own : ℕ → ℕ → AllocationField
own sb ch = record { subband = sb; channel = ch; both = false }

abbrev pub shared : ℕ → AllocationField
shared sb = record { subband = sb; channel = 0; both = true }

-- the channels that a field serves
abbrev pub served : AllocationField → List ℕ
served x = cond x.both (0 ∷ 1 ∷ []) (x.channel ∷ [])

-- a subband's fields
abbrev pub fields_at : Layout → ℕ → List AllocationField
fields_at l sb =
    cond (eqb l.channels 1) (own sb 0 ∷ [])
    (cond (ltb sb l.bound) (own sb 0 ∷ own sb 1 ∷ [])
    (shared sb ∷ []))

-- the fields of the subbands below n
unfoldable pub fields_below : Layout → ℕ → List AllocationField
fields_below l zero = []
fields_below l (suc n) = fields_below l n ++ fields_at l n

unfoldable pub fields_of : Layout → List AllocationField
unfolding fields_below
fields_of l = fields_below l (limit_of l)

-- the field of a number, counted from 0
abbrev pub field_in : List AllocationField → ℕ → AllocationField
field_in fields f = get_or fields f (own 0 0)

-- whether a field serves a slot
abbrev pub serves : ℕ → ℕ → AllocationField → Bool
serves ch sb x = eqb x.subband sb && one_of (served x) ch

-- the number of the field that serves a slot; none where the layout does not carry the slot
abbrev pub served_by : Layout → ℕ → ℕ → Option ℕ
served_by l ch sb = place (serves ch sb) (fields_of l)

-- the steps that a field holds: those of the slot of its first channel
abbrev pub field_steps : List ℕ → AllocationField → ℕ
field_steps steps x = get_or steps (slot_of x.channel x.subband) 0

-- ---- over the list

-- a sum over fields, or over slots
abbrev pub sum_over : {A : Type 0} → (A → ℕ) → List A → ℕ
sum_over f [] = 0
sum_over f (x ∷ xs) = f x + sum_over f xs

-- the slots in the order in which their scfsi and scalefactors travel: field by field
abbrev pub slots_in : List AllocationField → List ℕ
slots_in [] = []
slots_in (x ∷ xs) = map (λ ch. slot_of ch x.subband) (served x) ++ slots_in xs

unfoldable pub slots_of : Layout → List ℕ
unfolding fields_of
slots_of l = slots_in (fields_of l)

-- ---- what the functions promise

pub record ChannelCountIs (l : Layout) (r : ℕ) : Type 0 where
  pub whole : r ≡ channel_count l
  pub most : r ≤ 2

pub record FieldsAre (l : Layout) (r : ℕ) : Type 0 where
  pub whole : r ≡ length (fields_of l)
  pub few : r ≤ 60

-- past the last field it is `own 0 0`
pub record FieldIs (l : Layout) (number : ℕ) (r : AllocationField) : Type 0 where
  pub whole : r ≡ field_in (fields_of l) number
  pub carried : r.subband < limit_of l
  pub channel : r.channel < 2

pub record ServingIs (l : Layout) (ch sb : ℕ) (r : Option ℕ) : Type 0 where
  pub whole : r ≡ served_by l ch sb
  pub below : (f : ℕ) → r ≡ Some f → f < 60

pub record SlotsAre (l : Layout) (r : ℕ) : Type 0 where
  pub whole : r ≡ length (slots_of l)
  pub few : r ≤ 60

-- past the last slot it is 0
pub record SlotIs (l : Layout) (number r : ℕ) : Type 0 where
  pub whole : r ≡ get_or (slots_of l) number 0
  pub below : r < 64
