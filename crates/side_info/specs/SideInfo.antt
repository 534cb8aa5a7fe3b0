-- The side information of a frame as a bit string: allocation, scfsi and scalefactors in the order of the syntax of ISO/IEC 11172-3 2.4.1.6, and
-- the questions that a record of them is asked.
use Rattle.std.specs.Prelude.{ℕ, ◌+◌, ◌*◌, Bool, true, cond, ◌&&◌, eqb, leb, get_or, Option, None, Some, is_some}
use mathlib.Core.List.{List, [], ◌∷◌, ◌++◌, map, flat_map}
use Rattle.header.specs.declared.FrameHeader.{FrameHeader}
use Rattle.header.specs.Questions.{Question}
use Rattle.bitalloc.specs.declared.BitAllocTable.{BitAllocTable}
use Rattle.bitalloc.specs.declared.BitAllocTable.TheVariants.{B2a}
use Rattle.bitalloc.specs.Options.{or_zero}
use Rattle.bitalloc.specs.Tables.{nbal_of, index_of}
use Rattle.table_selection.specs.Select.{table_of}
use Rattle.layout.specs.declared.Layout.{Layout}
use Rattle.layout.specs.declared.AllocationField.{AllocationField}
use Rattle.layout.specs.Slots.{slot_of}
use Rattle.layout.specs.Layout.{layout_of, served, fields_of, field_steps, slots_of, sum_over}
use Rattle.audio_data.specs.declared.Scfsi.{Scfsi}
use Rattle.audio_data.specs.declared.Scfsi.TheVariants.{ThreePerGranule}
use Rattle.side_info.specs.declared.SideInfo.{SideInfo}
use Rattle.audio_data.specs.Scfsi.{code_of, parts_of, Three, three, sent}
use Rattle.encoder_bit_budget.specs.Budget.{allocation_bits}
use Rattle.bit_string.specs.Bits.{bits_of}

-- ---- the record and its layout

-- what a frame's side information says, from its parts
abbrev pub side_info : List ℕ → List Scfsi → List ℕ → SideInfo
side_info steps scfsi scalefactors = record { steps = steps; scfsi = scfsi; scalefactors = scalefactors }

-- the scfsi of a slot that sends none
abbrev pub idle_scfsi : Scfsi
idle_scfsi = ThreePerGranule

-- of a slot: its scfsi, and the scalefactor indices of its three granules
abbrev pub scfsi_in : SideInfo → ℕ → Scfsi
scfsi_in r slot = get_or r.scfsi slot idle_scfsi

abbrev pub scalefactors_in : SideInfo → ℕ → Three
scalefactors_in r slot =
    three (get_or r.scalefactors (3 * slot) 0) (get_or r.scalefactors (3 * slot + 1) 0) (get_or r.scalefactors (3 * slot + 2) 0)

-- the layout that a header selects; where it selects no table, which question 1 refuses, that of B2a
abbrev pub or_b2a : Option BitAllocTable → BitAllocTable
or_b2a None = B2a
or_b2a (Some t) = t

abbrev pub header_layout : FrameHeader → Layout
header_layout h = layout_of h (or_b2a (table_of h))

-- A slot that the layout carries is active where its steps are not 0; any other slot is idle, and sends neither scfsi nor scalefactors.
abbrev pub active_among : List ℕ → List ℕ → List ℕ
active_among steps [] = []
active_among steps (slot ∷ slots) = cond (eqb (get_or steps slot 0) 0) (active_among steps slots) (slot ∷ active_among steps slots)

unfoldable pub active_slots : Layout → List ℕ → List ℕ
active_slots l steps = active_among steps (slots_of l)

-- ---- the bits

-- the allocation of a field: the place of its steps in its row, in nbal bits (without a place question 7 has refused)
abbrev pub allocation_field_bits : Layout → SideInfo → AllocationField → List Bool
allocation_field_bits l r x = bits_of (nbal_of l.table x.subband) (or_zero (index_of l.table x.subband (field_steps r.steps x)))

-- the scfsi of a slot: two bits
abbrev pub scfsi_bits : SideInfo → ℕ → List Bool
scfsi_bits r slot = bits_of 2 (code_of (scfsi_in r slot))

-- the scalefactors of a slot: the indices that its scfsi sends, six bits each
abbrev pub scalefactor_bits : SideInfo → ℕ → List Bool
scalefactor_bits r slot = flat_map (bits_of 6) (sent (scfsi_in r slot) (scalefactors_in r slot))

-- 2.4.1.6: the allocation of every field, the scfsi of every active slot, the scalefactors of every active slot; fields and slots by rising
-- subband, channel 0 first
unfoldable pub side_info_bits : Layout → SideInfo → List Bool
unfolding flat_map active_slots
side_info_bits l r =
    flat_map (allocation_field_bits l r) (fields_of l)
    ++ (flat_map (scfsi_bits r) (active_slots l r.steps)
    ++ flat_map (scalefactor_bits r) (active_slots l r.steps))

-- ---- the questions

-- question 6: the channels that a field serves have the same steps, as those of one channel do
abbrev pub same_steps : List ℕ → AllocationField → List ℕ → Bool
same_steps steps x [] = true
same_steps steps x (ch ∷ chs) = eqb (get_or steps (slot_of ch x.subband) 0) (field_steps steps x) && same_steps steps x chs

abbrev pub shared_asked : SideInfo → AllocationField → Question ℕ
shared_asked r x = record { yes = same_steps r.steps x (served x); otherwise = 6 }

-- question 7: the steps stand in the field's row
abbrev pub row_asked : Layout → SideInfo → AllocationField → Question ℕ
row_asked l r x = record { yes = is_some (index_of l.table x.subband (field_steps r.steps x)); otherwise = 7 }

-- question 8: Table 3-B.1 has the three indices of an active slot, whether its scfsi sends them or not: it ends at 62
abbrev pub tabled : Three → Bool
tabled t = leb t.first 62 && leb t.second 62 && leb t.third 62

abbrev pub scalefactor_asked : SideInfo → ℕ → Question ℕ
scalefactor_asked r slot = record { yes = tabled (scalefactors_in r slot); otherwise = 8 }

-- of a field 6, then 7
abbrev pub field_asked : Layout → SideInfo → AllocationField → List (Question ℕ)
field_asked l r x = shared_asked r x ∷ row_asked l r x ∷ []

-- field by field; after all fields 8 of every active slot
unfoldable pub record_asked : Layout → SideInfo → List (Question ℕ)
unfolding flat_map active_slots
record_asked l r = flat_map (field_asked l r) (fields_of l) ++ map (scalefactor_asked r) (active_slots l r.steps)

-- ---- how many bits

-- an active slot's: 2 of scfsi and 6 for each index that it sends
abbrev pub slot_count : SideInfo → ℕ → ℕ
slot_count r slot = 2 + 6 * parts_of (scfsi_in r slot)

-- the sum of nbal over the fields, and what the active slots send
abbrev pub bit_count : Layout → SideInfo → ℕ
bit_count l r = allocation_bits l + sum_over (slot_count r) (active_slots l r.steps)
