-- An accepted allocation when its frame is sent: its record passes the check; its steps can be written with any scfsi and any indices of Table 3-B.1, and
-- header, CRC, side information, samples and ancillary data together fit the frame.
use Rattle.std.specs.Prelude.{ℕ, ◌+◌, ◌≤◌, ◌≡◌, List, Float, get_or}
use Rattle.quantization.specs.Classes.{sample_bits}
use Rattle.layout.specs.declared.Layout.{Layout}
use Rattle.layout.specs.Layout.{fields_of, field_steps, sum_over}
use Rattle.audio_data.specs.declared.Scfsi.{Scfsi}
use Rattle.encoder_bit_budget.specs.declared.Request.{Request}
use Rattle.encoder_bit_budget.specs.Budget.{cb_of, crc_bits}
use Rattle.encoder_bit_allocator.specs.Allocation.{AllocationAnswer, AllocationIs}
use Rattle.side_info.specs.SideInfo.{side_info, header_layout}
use Rattle.side_info_writer.specs.Written.{WrittenAnswer, WrittenIs}
use Rattle.record_check.specs.Check.{CheckAnswer, checked, CheckIs}

-- the bits of the samples: those of each field, once where it serves both channels
abbrev pub samples_of : Layout → List ℕ → ℕ
samples_of l steps = sum_over (λ x. sample_bits (field_steps steps x)) (fields_of l)

-- the bits of the frame as it is sent: the header, the CRC, what is written, the samples and the caller's ancillary bits
abbrev pub sent_bits : Request → List ℕ → WrittenAnswer → ℕ
sent_bits q steps w = 32 + crc_bits q.header.protection_bit + w.bits_used + samples_of (header_layout q.header) steps + q.banc

-- it is written, and it fits
pub record SentIn (q : Request) (steps : List ℕ) (w : WrittenAnswer) : Type 0 where
  pub accepted : w.number ≡ 0
  pub fits : sent_bits q steps w ≤ cb_of q

-- What the contracts of `allocate_bits` and `write_side_info` come to together: whatever an allocation accepts, written with any scfsi and any
-- indices up to 62, fits.
pub record CanBeSent (q : Request) (smr : List (List Float)) (a : AllocationAnswer) : Type 0 where
  pub sent : AllocationIs q smr a → a.number ≡ 0
      → (scfsi : List Scfsi) (scalefactors : List ℕ) → ((i : ℕ) → get_or scalefactors i 0 ≤ 62)
      → (w : WrittenAnswer) → WrittenIs q.header (side_info a.audio.nb_steps scfsi scalefactors) w
      → SentIn q a.audio.nb_steps w

-- What the contracts of `allocate_bits` and `check_record` come to together: the record that an allocation accepts passes.
pub record AllocationPasses (q : Request) (smr : List (List Float)) (a : AllocationAnswer) : Type 0 where
  pub passes : AllocationIs q smr a → a.number ≡ 0
      → (c : CheckAnswer) → CheckIs q.header (side_info a.audio.nb_steps a.audio.scfsi a.audio.scalefactor) c → c ≡ checked 0 0 0
