-- The frame header of ISO/IEC 11172-3: modes and extensions, channels and bound (2.4.2.3), and the size of the frame (2.4.3.1).
use Rattle.std.specs.Prelude.{ℕ, ◌+◌, ◌*◌, ◌/◌, ◌≤◌, Bool, not, cond, [], ◌∷◌, ◌≡◌, eqb, Option, None, Some, slice_get, Result, ok_or}
use Rattle.header.specs.declared.Mode.{Mode}
use Rattle.header.specs.declared.Mode.TheVariants.{Stereo, JointStereo, DualChannel, SingleChannel}
use Rattle.header.specs.declared.ModeExtension.{ModeExtension}
use Rattle.header.specs.declared.UnknownMode.{UnknownMode}
use Rattle.header.specs.declared.UnknownExtension.{UnknownExtension}
use Rattle.header.specs.declared.ModeExtension.TheVariants.{Bound4, Bound8, Bound12, Bound16}
use Rattle.header.specs.declared.FrameHeader.{FrameHeader}
use Rattle.header.specs.Questions.{Question, number}

-- mode: '00' is stereo, '01' joint_stereo, '10' dual_channel, '11' single_channel
abbrev pub mode_of_code : ℕ → Option Mode
mode_of_code code = slice_get (Stereo ∷ JointStereo ∷ DualChannel ∷ SingleChannel ∷ []) code

-- single_channel has one channel, every other mode two
abbrev pub channels_of : Mode → ℕ
channels_of Stereo = 2
channels_of JointStereo = 2
channels_of DualChannel = 2
channels_of SingleChannel = 1

-- mode_extension: the bound is 4 at '00', 8 at '01', 12 at '10', 16 at '11'
abbrev pub extension_of_code : ℕ → Option ModeExtension
extension_of_code code = slice_get (Bound4 ∷ Bound8 ∷ Bound12 ∷ Bound16 ∷ []) code

-- the subbands from the bound on are in intensity stereo
abbrev pub bound_of : ModeExtension → ℕ
bound_of Bound4 = 4
bound_of Bound8 = 8
bound_of Bound12 = 12
bound_of Bound16 = 16

-- a code is read: it names a mode, or is handed back
abbrev pub ModeNamed : ℕ → Result Mode UnknownMode → Type 0
ModeNamed code r = r ≡ ok_or (mode_of_code code) (record { 0 = code })

abbrev pub ExtensionNamed : ℕ → Result ModeExtension UnknownExtension → Type 0
ExtensionNamed code r = r ≡ ok_or (extension_of_code code) (record { 0 = code })

-- free format: no bit rate is named
abbrev pub free_format : FrameHeader → Bool
free_format h = eqb h.bit_rate 0

-- the frame's bytes, which the standard calls slots: N = 144 * bit rate / sampling frequency, truncated, and one more with padding
abbrev pub frame_bytes : FrameHeader → ℕ
frame_bytes h = 144 * h.bit_rate / h.sample_rate + cond h.padding 1 0

-- ---- the answer of `frame_size_bytes`

-- an answer's number, and the frame's bytes, which are 0 where the number is not
pub record Size : Type 0 where
  pub answer : ℕ
  pub bytes : ℕ

-- what the answer stands for; there is none where the sample rate is 0
abbrev pub size_of : Option ℕ → Size
size_of (Some n) = record { answer = 0; bytes = n }
size_of None = record { answer = 2; bytes = 0 }

-- question 2: the sample rate is not 0
abbrev pub sample_rate_asked : FrameHeader → Question ℕ
sample_rate_asked h = record { yes = not (eqb h.sample_rate 0); otherwise = 2 }

-- the bytes under a number: those of an accepted frame, and 0 of a refused one
abbrev pub where_accepted : ℕ → ℕ → ℕ
where_accepted n x = cond (eqb n 0) x 0

-- the whole answer for a header
unfoldable pub frame_size : FrameHeader → Size
frame_size h =
    let n = number (sample_rate_asked h ∷ []) in
    record { answer = n; bytes = where_accepted n (frame_bytes h) }

-- ---- what the functions promise

pub record ChannelsAre (m : Mode) (r : ℕ) : Type 0 where
  pub whole : r ≡ channels_of m
  pub least : 1 ≤ r
  pub most : r ≤ 2

pub record BoundIs (e : ModeExtension) (r : ℕ) : Type 0 where
  pub whole : r ≡ bound_of e
  pub most : r ≤ 16

pub record SizeIs (h : FrameHeader) (r : Option ℕ) : Type 0 where
  pub whole : size_of r ≡ frame_size h
  pub most : (size_of r).bytes ≤ 618_475_290_481
