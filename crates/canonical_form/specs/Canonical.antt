-- The whole answer of the writer that gives a frame's side information one form, and what it promises.
use Rattle.std.specs.Prelude.{ℕ, ◌≤◌, ◌<◌, ◌≡◌, true, get_or}
use mathlib.Core.List.{List, [], ◌++◌, map, flat_map}
use Rattle.tables.specs.Search.{one_of}
use Rattle.header.specs.declared.FrameHeader.{FrameHeader}
use Rattle.header.specs.Questions.{Question, number}
use Rattle.encoder_bit_budget.specs.Budget.{header_asked}
use Rattle.layout.specs.declared.Layout.{Layout}
use Rattle.layout.specs.Layout.{fields_of}
use Rattle.audio_data.specs.declared.Scfsi.{Scfsi}
use Rattle.bit_string.specs.Bits.{packed}
use Rattle.side_info.specs.declared.SideInfo.{SideInfo}
use Rattle.side_info.specs.SideInfo.{side_info, scalefactors_in, header_layout, active_slots, side_info_bits, row_asked, scalefactor_asked}
use Rattle.record_check.specs.Check.{slot_asked, in_order, check_of}
use Rattle.side_info_writer.specs.Written.{WrittenAnswer, written, where_zero, written_of, WrittenIs}
use Rattle.side_info_reading.specs.Read.{read_of}
use Rattle.canonical_form.specs.Fewest.{canonical}

-- ---- the answer

-- The header's questions; those of `check_record`, slot by slot; then those of `write_side_info` that `check_record` does not ask: 7 of every field, and
-- after all fields 8 of every active slot.
unfoldable pub canonical_asked : FrameHeader → SideInfo → List (Question ℕ)
unfolding flat_map slot_asked in_order active_slots
canonical_asked h s =
    let l = header_layout h in
    header_asked h
    ++ (flat_map (slot_asked l s) in_order
    ++ (map (row_asked l s) (fields_of l)
    ++ map (scalefactor_asked s) (active_slots l s.steps)))

-- the writer's bits, of the record with the chosen scfsi; beside a refusal none
unfoldable pub canonical_of : FrameHeader → SideInfo → WrittenAnswer
unfolding canonical_asked packed side_info_bits
canonical_of h s =
    let n = number (canonical_asked h s) in
    written n (where_zero n (side_info_bits (header_layout h) (canonical s)))

-- ---- what `write_side_info_canonical` promises

-- `write_side_info` and `check_record` accept the record
abbrev pub BothAccept : FrameHeader → SideInfo → Type 0
BothAccept h s = ((written_of h s).number ≡ 0) × ((check_of h s).number ≡ 0)

-- two records say the same of a frame: the steps of all slots agree, and the indices of the active ones
pub record SaysTheSame (l : Layout) (s t : SideInfo) : Type 0 where
  pub steps : (slot : ℕ) → slot < 64 → get_or s.steps slot 0 ≡ get_or t.steps slot 0
  pub indices : (slot : ℕ) → one_of (active_slots l s.steps) slot ≡ true → scalefactors_in s slot ≡ scalefactors_in t slot

-- a record with other scfsi
abbrev pub with_scfsi : List Scfsi → SideInfo → SideInfo
with_scfsi c s = side_info s.steps c s.scalefactors

pub record CanonicalIs (h : FrameHeader) (s : SideInfo) (w : WrittenAnswer) : Type 0 where
  -- the whole answer; `refused`, `accepted` and `chosen` say it again without the list of questions
  pub whole : w ≡ canonical_of h s
  -- what `check_record` refuses has its number, 174 zeros and no bits
  pub refused : ((check_of h s).number ≡ 0 → ⊥) → w ≡ written (check_of h s).number []
  -- what it accepts has the number that `write_side_info` gives it, and is what that writes of the record with the chosen scfsi
  pub accepted : (check_of h s).number ≡ 0 → w.number ≡ (written_of h s).number
  pub chosen : (check_of h s).number ≡ 0 → WrittenIs h (canonical s) w
  -- two records that say the same have one answer; and where `write_side_info` and `check_record` accept two records and their bytes are equal, they say
  -- the same
  pub same_answer : (check_of h s).number ≡ 0 → (t : SideInfo) → (check_of h t).number ≡ 0 → SaysTheSame (header_layout h) s t → w ≡ canonical_of h t
  pub same_bytes : BothAccept h s → (t : SideInfo) → BothAccept h t → w.bytes ≡ (canonical_of h t).bytes → SaysTheSame (header_layout h) s t
  -- the bytes of an accepted record are read, in as many bits; what is read says the same; and written so again it gives the same answer
  pub reads : w.number ≡ 0 → (read_of h w.bytes).number ≡ 0
  pub used : w.number ≡ 0 → (read_of h w.bytes).bits_used ≡ w.bits_used
  pub back : w.number ≡ 0 → SaysTheSame (header_layout h) s (read_of h w.bytes).info
  pub again : w.number ≡ 0 → canonical_of h (read_of h w.bytes).info ≡ w
  -- with no scfsi that `check_record` accepts for these steps and indices, the given one among them, does `write_side_info` use fewer bits
  pub shortest : (c : List Scfsi) → (check_of h (with_scfsi c s)).number ≡ 0 → w.bits_used ≤ (written_of h (with_scfsi c s)).bits_used
