-- The side information that stands at the front of a bit string, in the order of the syntax of ISO/IEC 11172-3 2.4.1.6.
use Rattle.std.specs.Prelude.{ℕ, zero, suc, ◌+◌, ◌*◌, Bool, cond, List, [], ◌∷◌, map, eqb, get_or, replicate}
use Rattle.bitalloc.specs.Tables.{nbal_of, row_of}
use Rattle.layout.specs.declared.Layout.{Layout}
use Rattle.layout.specs.declared.AllocationField.{AllocationField}
use Rattle.layout.specs.Slots.{slot_of}
use Rattle.layout.specs.Layout.{served, fields_of}
use Rattle.audio_data.specs.declared.Scfsi.{Scfsi}
use Rattle.audio_data.specs.Scfsi.{Three, of_code, parts_of, restored}
use Rattle.side_info.specs.declared.SideInfo.{SideInfo}
use Rattle.side_info.specs.SideInfo.{side_info, idle_scfsi, active_slots}
use Rattle.side_info_reading.specs.Taken.{Taken, got, refused, and_then, number_taken, each_taken}

-- ---- the fields

-- an allocation field: nbal bits, the place of its steps in its row (which has 2 ^ nbal places)
abbrev pub field_taken : Layout → AllocationField → List Bool → Taken ℕ
field_taken l x bits = and_then (number_taken (nbal_of l.table x.subband) bits) (λ place. got (get_or (row_of l.table x.subband) place 0))

-- a scfsi: two bits, whichever the slot
abbrev pub scfsi_taken : ℕ → List Bool → Taken Scfsi
scfsi_taken slot bits = and_then (number_taken 2 bits) (λ code. got (of_code code))

-- a scalefactor index: six bits; Table 3-B.1 ends at 62, and 63 is refused
abbrev pub index_taken : List Bool → Taken ℕ
index_taken bits = and_then (number_taken 6 bits) (λ index rest. cond (eqb index 63) (refused 10) (got index rest))

-- so many indices, one after the other
abbrev pub indices_taken : ℕ → List Bool → Taken (List ℕ)
indices_taken zero bits = got [] bits
indices_taken (suc n) bits = and_then (index_taken bits) (λ index rest. and_then (indices_taken n rest) (λ more. got (index ∷ more)))

-- the scalefactors of a slot: as many indices as its scfsi sends, which make the three
abbrev pub three_taken : Scfsi → List Bool → Taken Three
three_taken s bits = and_then (indices_taken (parts_of s) bits) (λ sent. got (restored s sent))

-- ---- where they belong

-- a field's steps: in the slots that it serves
abbrev pub in_slots : AllocationField → ℕ → List (ℕ × ℕ)
in_slots x steps = map (λ ch. (slot_of ch x.subband, steps)) (served x)

-- a slot's scfsi
abbrev pub in_slot : ℕ → Scfsi → List (ℕ × Scfsi)
in_slot slot s = (slot, s) ∷ []

-- a slot's scalefactors: one for each granule
abbrev pub in_granules : ℕ → Three → List (ℕ × ℕ)
in_granules slot t = (3 * slot, t.first) ∷ (3 * slot + 1, t.second) ∷ (3 * slot + 2, t.third) ∷ []

-- ---- the whole

-- nothing read: no steps, `ThreePerGranule`, every index 0. So it stands beside a refusal, and so a slot is left that nothing is read for.
unfoldable pub nothing : SideInfo
nothing = side_info (replicate 64 0) (replicate 64 idle_scfsi) (replicate 192 0)

-- the allocation of every field
abbrev pub allocation_taken : Layout → List Bool → Taken (List ℕ)
allocation_taken l bits = each_taken (field_taken l) in_slots (fields_of l) nothing.steps bits

-- the scfsi of slots
abbrev pub scfsis_taken : List ℕ → List Bool → Taken (List Scfsi)
scfsis_taken slots bits = each_taken scfsi_taken in_slot slots nothing.scfsi bits

-- their scalefactors
abbrev pub scalefactors_taken : List Scfsi → List ℕ → List Bool → Taken (List ℕ)
scalefactors_taken scfsi slots bits = each_taken (λ slot. three_taken (get_or scfsi slot idle_scfsi)) in_granules slots nothing.scalefactors bits

-- In the order of the bits: the allocation of every field, the scfsi of every active slot, the scalefactors of every active slot. `with_scfsi` and
-- `with_steps` are what comes behind scfsi and behind the allocation.
abbrev pub with_scfsi : Layout → List ℕ → List Scfsi → List Bool → Taken SideInfo
with_scfsi l steps scfsi bits = and_then (scalefactors_taken scfsi (active_slots l steps) bits) (λ scalefactors. got (side_info steps scfsi scalefactors))

abbrev pub with_steps : Layout → List ℕ → List Bool → Taken SideInfo
with_steps l steps bits = and_then (scfsis_taken (active_slots l steps) bits) (with_scfsi l steps)

unfoldable pub side_info_taken : Layout → List Bool → Taken SideInfo
unfolding active_slots and_then each_taken number_taken nothing
side_info_taken l bits = and_then (allocation_taken l bits) (with_steps l)
