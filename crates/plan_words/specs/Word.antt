-- The words of a command line, and what each of them sets.
use Rattle.std.specs.Prelude.{ℕ, true, false, cond, List, [], ◌∷◌, ◌++◌, eqb, length, take, drop, Option, Some, None, option_map}
use Rattle.std.specs.Option.{option_or}
use Prim.Native.String.{String}
use Rattle.header.specs.declared.Mode.TheVariants.{Stereo, JointStereo, DualChannel, SingleChannel}
use Rattle.header.specs.declared.ModeExtension.TheVariants.{Bound4, Bound8, Bound12, Bound16}
use Rattle.plan_text.specs.Bytes.{same}
use Rattle.plan_text.specs.Digits.{number_to}
use Rattle.plan_text.specs.Quoted.{text}
use Rattle.plan_words.specs.declared.Setting.{Setting}
use Rattle.plan_words.specs.declared.Setting.TheVariants.{SampleRate, BitRate, Channels, Bound, Lsf, Padding, Crc, Ancillary}

-- ---- words that stand for themselves

-- a word and what it sets
pub record Named : Type 0 where
  pub word : String
  pub sets : Setting

abbrev pub named : String → Setting → Named
named word sets = record { word = word; sets = sets }

unfoldable pub mode_words : List Named
mode_words =
    named "mode=stereo" (Channels Stereo)
    ∷ named "mode=joint" (Channels JointStereo)
    ∷ named "mode=dual" (Channels DualChannel)
    ∷ named "mode=single" (Channels SingleChannel)
    ∷ []

unfoldable pub bound_words : List Named
bound_words =
    named "bound=4" (Bound Bound4)
    ∷ named "bound=8" (Bound Bound8)
    ∷ named "bound=12" (Bound Bound12)
    ∷ named "bound=16" (Bound Bound16)
    ∷ []

unfoldable pub flag_words : List Named
flag_words =
    named "lsf=0" (Lsf false)
    ∷ named "lsf=1" (Lsf true)
    ∷ named "padding=0" (Padding false)
    ∷ named "padding=1" (Padding true)
    ∷ named "crc=0" (Crc false)
    ∷ named "crc=1" (Crc true)
    ∷ []

-- what the first entry of a table with that word sets, and `other` where there is none
unfoldable pub lookup : List Named → Option Setting → List ℕ → Option Setting
lookup [] other w = other
lookup (n ∷ ns) other w = cond (same w (text n.word)) (Some n.sets) (lookup ns other w)

-- ---- words with a number

-- one digit or more, and a number of 32 bits
unfoldable pub number : List ℕ → Option ℕ
number v = cond (eqb (length v) 0) None (number_to 4_294_967_295 v)

-- the number behind a key
unfoldable pub value_after : List ℕ → List ℕ → Option ℕ
value_after key w = cond (same (take (length key) w) key) (number (drop (length key) w)) None

unfoldable pub number_word : List ℕ → Option Setting
number_word w =
    option_or
    (option_or (option_map SampleRate (value_after (text "fs=") w)) (option_map BitRate (value_after (text "rate=") w)))
    (option_map Ancillary (value_after (text "ancillary=") w))

-- ---- any word

unfoldable pub meaning : List ℕ → Option Setting
meaning w = lookup (mode_words ++ bound_words ++ flag_words) (number_word w) w
