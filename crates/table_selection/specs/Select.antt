-- Which table a header selects. The headings of Tables 3-B.2a to d of ISO/IEC 11172-3 name sampling frequencies and bit rates per channel;
-- with low sampling frequencies it is always Table B.1 of ISO/IEC 13818-3 (2.4.3.1 there).
use Rattle.std.specs.Prelude.{ℕ, ◌/◌, ◌%◌, Bool, true, false, cond, ◌&&◌, List, [], ◌∷◌, eqb, Option, None, Some, option_map}
use Rattle.tables.specs.Search.{find, one_of}
use Rattle.header.specs.declared.FrameHeader.{FrameHeader}
use Rattle.header.specs.Header.{channels_of, free_format}
use Rattle.bitalloc.specs.declared.BitAllocTable.{BitAllocTable}
use Rattle.bitalloc.specs.declared.BitAllocTable.TheVariants.{B2a, B2b, B2c, B2d, B1Lsf}

-- A line of a table's heading: a sampling frequency in Hz, the bit rates per channel in kbit/s at which the table holds there,
-- and whether it holds for free format.
pub record Heading : Type 0 where
  pub table : BitAllocTable
  pub frequency : ℕ
  pub kbps : List ℕ
  pub free : Bool

abbrev heading : BitAllocTable → ℕ → List ℕ → Bool → Heading
heading table frequency kbps free = record { table = table; frequency = frequency; kbps = kbps; free = free }

unfoldable pub headings : List Heading
headings =
    heading B2a 48_000 (56 ∷ 64 ∷ 80 ∷ 96 ∷ 112 ∷ 128 ∷ 160 ∷ 192 ∷ []) true
    ∷ heading B2a 44_100 (56 ∷ 64 ∷ 80 ∷ []) false
    ∷ heading B2a 32_000 (56 ∷ 64 ∷ 80 ∷ []) false
    ∷ heading B2b 44_100 (96 ∷ 112 ∷ 128 ∷ 160 ∷ 192 ∷ []) true
    ∷ heading B2b 32_000 (96 ∷ 112 ∷ 128 ∷ 160 ∷ 192 ∷ []) true
    ∷ heading B2c 48_000 (32 ∷ 48 ∷ []) false
    ∷ heading B2c 44_100 (32 ∷ 48 ∷ []) false
    ∷ heading B2d 32_000 (32 ∷ 48 ∷ []) false
    ∷ []

-- the bit rate per channel in whole kbit/s: half of the total for two channels, and nothing where the total is odd
unfoldable pub kbps_per_channel : FrameHeader → Option ℕ
kbps_per_channel h =
    let total = h.bit_rate / 1000 in
    cond (eqb (channels_of h.mode) 1) (Some total)
    (cond (eqb (total % 2) 0) (Some (total / 2)) None)

-- ---- what a heading is asked: free format, or a number of kbit/s per channel

pub data Rate : Type 0 where
  free : Rate
  kbps : Option ℕ → Rate

abbrev pub rate_of : FrameHeader → Rate
rate_of h = cond (free_format h) free (kbps (kbps_per_channel h))

abbrev pub has : Heading → Rate → Bool
has g free = g.free
has g (kbps None) = false
has g (kbps (Some n)) = one_of g.kbps n

-- the table whose heading has the sampling frequency and the rate
unfoldable pub table_at : ℕ → Rate → Option BitAllocTable
unfolding headings
table_at frequency rate = option_map (λ g. g.table) (find (λ g. eqb frequency g.frequency && has g rate) headings)

unfoldable pub table_of : FrameHeader → Option BitAllocTable
unfolding table_at kbps_per_channel
table_of h = cond h.lsf (Some B1Lsf) (table_at h.sample_rate (rate_of h))
