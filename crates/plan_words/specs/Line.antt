-- The words of a command line in order: the header and the ancillary bits that they set, or the first word that is not accepted.
use Rattle.std.specs.Prelude.{ℕ, ◌+◌, Bool, false, not, cond, List, [], ◌∷◌, eqb, length, Option, Some, None, is_some, unwrap_or, Result, Ok, Err}
use Rattle.header.specs.declared.Mode.{Mode}
use Rattle.header.specs.declared.Mode.TheVariants.{Stereo}
use Rattle.header.specs.declared.ModeExtension.{ModeExtension}
use Rattle.header.specs.declared.ModeExtension.TheVariants.{Bound4}
use Rattle.plan_text.specs.Bytes.{pieces}
use Rattle.plan_words.specs.declared.Setting.{Setting}
use Rattle.plan_words.specs.declared.Setting.TheVariants.{SampleRate, BitRate, Channels, Bound, Lsf, Padding, Crc, Ancillary}
use Rattle.plan_words.specs.declared.Settings.{Settings}
use Rattle.plan_words.specs.declared.WordPlace.{WordPlace}
use Rattle.plan_words.specs.declared.Words.{Words}
use Rattle.plan_words.specs.declared.WordsError.{WordsError}
use Rattle.plan_words.specs.declared.WordsError.TheVariants.{Unknown, Twice, NoSampleRate, NoBitRate}
use Rattle.plan_words.specs.Word.{meaning}

-- ---- one setting

-- the settings of their fields
abbrev pub settings_of : Option ℕ → Option ℕ → Option Mode → Option ModeExtension → Option Bool → Option Bool → Option Bool → Option ℕ → Settings
settings_of f r m e l p c b = record {
  sample_rate = f;
  bit_rate = r;
  mode = m;
  bound = e;
  lsf = l;
  padding = p;
  crc = c;
  ancillary = b;
}

-- before the first word
unfoldable pub nothing_set : Settings
nothing_set = settings_of None None None None None None None None

-- the settings with it
abbrev pub with_setting : Settings → Setting → Settings
with_setting s (SampleRate n) = settings_of (Some n) s.bit_rate s.mode s.bound s.lsf s.padding s.crc s.ancillary
with_setting s (BitRate n) = settings_of s.sample_rate (Some n) s.mode s.bound s.lsf s.padding s.crc s.ancillary
with_setting s (Channels m) = settings_of s.sample_rate s.bit_rate (Some m) s.bound s.lsf s.padding s.crc s.ancillary
with_setting s (Bound e) = settings_of s.sample_rate s.bit_rate s.mode (Some e) s.lsf s.padding s.crc s.ancillary
with_setting s (Lsf b) = settings_of s.sample_rate s.bit_rate s.mode s.bound (Some b) s.padding s.crc s.ancillary
with_setting s (Padding b) = settings_of s.sample_rate s.bit_rate s.mode s.bound s.lsf (Some b) s.crc s.ancillary
with_setting s (Crc b) = settings_of s.sample_rate s.bit_rate s.mode s.bound s.lsf s.padding (Some b) s.ancillary
with_setting s (Ancillary n) = settings_of s.sample_rate s.bit_rate s.mode s.bound s.lsf s.padding s.crc (Some n)

-- whether its key was given
abbrev pub is_given : Settings → Setting → Bool
is_given s (SampleRate n) = is_some s.sample_rate
is_given s (BitRate n) = is_some s.bit_rate
is_given s (Channels m) = is_some s.mode
is_given s (Bound e) = is_some s.bound
is_given s (Lsf b) = is_some s.lsf
is_given s (Padding b) = is_some s.padding
is_given s (Crc b) = is_some s.crc
is_given s (Ancillary n) = is_some s.ancillary

-- the settings with it, where its key was not given
abbrev pub once : Settings → Setting → Option Settings
once s m = cond (is_given s m) None (Some (with_setting s m))

-- ---- the words of a line

-- a word and its place
pub record Word : Type 0 where
  pub place : WordPlace
  pub text : List ℕ

-- from `at` to before `end`
abbrev pub place_of : ℕ → ℕ → WordPlace
place_of at end = record { at = at; end = end }

-- words one behind the other, each ended by one byte
abbrev pub placed : ℕ → List (List ℕ) → List Word
placed at [] = []
placed at (w ∷ ws) = record { place = place_of at (at + length w); text = w } ∷ placed (at + length w + 1) ws

-- the byte 0 ends a word
abbrev pub is_end : ℕ → Bool
is_end b = eqb b 0

-- ---- the answer

-- by whether there is a value
abbrev pub where_some : {A B : Type 0} → Option A → B → (A → B) → B
where_some None other f = other
where_some (Some x) other f = f x

-- with a sample rate and a bit rate. Where no word says otherwise: stereo, a bound of 4, no CRC. A CRC is carried where the protection bit is false
abbrev pub accepted : Settings → ℕ → ℕ → Words
accepted s f r = record {
  header = record {
    lsf = unwrap_or s.lsf false;
    bit_rate = r;
    sample_rate = f;
    padding = unwrap_or s.padding false;
    mode = unwrap_or s.mode Stereo;
    mode_extension = unwrap_or s.bound Bound4;
    protection_bit = not (unwrap_or s.crc false);
  };
  banc = unwrap_or s.ancillary 0;
}

-- where every word is accepted: fs has to be given, and then the rate
unfoldable pub finished : Settings → Result Words WordsError
finished s =
    where_some s.sample_rate (Err NoSampleRate)
    (λ f. where_some s.bit_rate (Err NoBitRate)
    (λ r. Ok (accepted s f r)))

-- the answer to words, where `s` is set by those before them
unfoldable pub settled : Settings → List Word → Result Words WordsError
settled s [] = finished s
settled s (w ∷ ws) =
    where_some (meaning w.text) (Err (Unknown w.place))
    (λ m. where_some (once s m) (Err (Twice w.place))
    (λ t. settled t ws))

-- the whole answer
unfoldable pub words_of : List ℕ → Result Words WordsError
words_of line = settled nothing_set (placed 0 (pieces is_end line))
