-- The whole answer of the reader of a frame's side information, and what it promises of what was written.
use Rattle.std.specs.Prelude.{ℕ, ◌-◌, ◌≤◌, ◌≡◌, Bool, false, cond, List, eqb, length, take}
use Rattle.tables.specs.Search.{one_of}
use Rattle.header.specs.declared.FrameHeader.{FrameHeader}
use Rattle.header.specs.Questions.{number}
use Rattle.encoder_bit_budget.specs.Budget.{header_asked}
use Rattle.layout.specs.declared.Layout.{Layout}
use Rattle.audio_data.specs.declared.Scfsi.TheVariants.{ThreePerGranule}
use Rattle.audio_data.specs.Scfsi.{three}
use Rattle.bit_string.specs.Bits.{unpacked}
use Rattle.side_info.specs.declared.SideInfo.{SideInfo}
use Rattle.side_info.specs.SideInfo.{scfsi_in, scalefactors_in, header_layout, active_slots}
use Rattle.record_check.specs.Together.{StepsCarried, IndicesShared}
use Rattle.side_info_writer.specs.Written.{written, written_of}
use Rattle.side_info_reading.specs.Taken.{Taken, got, refused}
use Rattle.side_info_reading.specs.Reading.{nothing, side_info_taken}

-- an answer: its number, the record, and how many bits it took
pub record ReadAnswer : Type 0 where
  pub number : ℕ
  pub info : SideInfo
  pub bits_used : ℕ

abbrev pub read : ℕ → SideInfo → ℕ → ReadAnswer
read n s used = record { number = n; info = s; bits_used = used }

-- by what was taken of the bits: those used are no longer there; beside a refusal nothing is read
abbrev pub read_by : List Bool → Taken SideInfo → ReadAnswer
read_by bits (got s rest) = read 0 s (length bits - length rest)
read_by bits (refused n) = read n nothing 0

-- the header's questions, then what stands at the front of the bytes' bits in the header's layout
unfoldable pub read_of : FrameHeader → List ℕ → ReadAnswer
unfolding nothing side_info_taken unpacked
read_of h bytes =
    let n = number (header_asked h) in
    let bits = unpacked bytes in
    read_by bits (cond (eqb n 0) (side_info_taken (header_layout h) bits) (refused n))

-- ---- what `read_side_info` promises

-- A record that loses nothing in bits, if the writer accepts it: 64 slots, of which the active ones agree with the sharing that their scfsi states and
-- the others hold what an idle slot reads as, and no steps where the layout has no slot.
pub record Restorable (l : Layout) (s : SideInfo) : Type 0 where
  pub steps_long : length s.steps ≡ 64
  pub scfsi_long : length s.scfsi ≡ 64
  pub scalefactors_long : length s.scalefactors ≡ 192
  pub agrees : (slot : ℕ) → IndicesShared l s slot
  pub idle : (slot : ℕ) → one_of (active_slots l s.steps) slot ≡ false → (scfsi_in s slot ≡ ThreePerGranule) × (scalefactors_in s slot ≡ three 0 0 0)
  pub outside : (slot : ℕ) → StepsCarried l s slot

-- two byte strings agree on their first n bits
abbrev pub Alike : ℕ → List ℕ → List ℕ → Type 0
Alike n bytes other = take n (unpacked bytes) ≡ take n (unpacked other)

pub record ReadIs (h : FrameHeader) (bytes : List ℕ) (r : ReadAnswer) : Type 0 where
  -- the whole answer
  pub whole : r ≡ read_of h bytes
  -- what is written of a record that can be restored comes back, whatever stands behind its bits
  pub back : (s : SideInfo) → (written_of h s).number ≡ 0 → Restorable (header_layout h) s → Alike (written_of h s).bits_used bytes (written_of h s).bytes
      → r ≡ read 0 s (written_of h s).bits_used
  -- what is read is accepted by the writer, which gives the bits that were used, and zeros behind them
  pub again : r.number ≡ 0 → written_of h r.info ≡ written 0 (take r.bits_used (unpacked bytes))
  -- it can be restored
  pub restorable : r.number ≡ 0 → Restorable (header_layout h) r.info
  -- nothing behind the bits used is looked at
  pub alone : r.number ≡ 0 → (other : List ℕ) → Alike r.bits_used other bytes → read_of h other ≡ r
  -- the bits used are there, and never more than 1388
  pub there : r.bits_used ≤ length (unpacked bytes)
  pub most : r.bits_used ≤ 1388
