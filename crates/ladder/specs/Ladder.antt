-- The bit rates that a header can name, the ladder: bitrate_index in ISO/IEC 11172-3 2.4.2.3 and ISO/IEC 13818-3 2.4.2.3, Layer II.
use Rattle.std.specs.Prelude.{ℕ, ◌*◌, Bool, cond, ◌||◌, List, [], ◌∷◌, map}
use Rattle.tables.specs.Search.{one_of}
use Rattle.header.specs.declared.FrameHeader.{FrameHeader}
use Rattle.header.specs.Header.{free_format}

-- ISO/IEC 11172-3: the kbit/s of '0001' to '1110'
unfoldable pub ladder : List ℕ
ladder = 32 ∷ 48 ∷ 56 ∷ 64 ∷ 80 ∷ 96 ∷ 112 ∷ 128 ∷ 160 ∷ 192 ∷ 224 ∷ 256 ∷ 320 ∷ 384 ∷ []

-- ISO/IEC 13818-3, low sampling frequencies: the kbit/s of '0001' to '1110'
unfoldable pub lsf_ladder : List ℕ
lsf_ladder = 8 ∷ 16 ∷ 24 ∷ 32 ∷ 40 ∷ 48 ∷ 56 ∷ 64 ∷ 80 ∷ 96 ∷ 112 ∷ 128 ∷ 144 ∷ 160 ∷ []

-- a header's ladder, by its LSF flag
unfoldable pub ladder_of : Bool → List ℕ
unfolding ladder lsf_ladder
ladder_of lsf = cond lsf lsf_ladder ladder

-- a ladder's kbit/s as bit/s
abbrev pub bit_rates : List ℕ → List ℕ
bit_rates kbps = map (λ k. 1000 * k) kbps

-- a header's rate is on its ladder: it is 0, which is free format, or 1000 times one of the ladder's kbit/s
unfoldable pub on_ladder : FrameHeader → Bool
unfolding ladder_of one_of
on_ladder h = free_format h || one_of (bit_rates (ladder_of h.lsf)) h.bit_rate
