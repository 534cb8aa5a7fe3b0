-- Worked examples of the definitions.
use mathlib.Core.Path.{◌≡◌, refl}
use mathlib.Core.Bool.{false}
use Rattle.std.specs.Prelude.{Ok, Err}
use Rattle.header.specs.declared.Mode.TheVariants.{JointStereo}
use Rattle.header.specs.declared.ModeExtension.TheVariants.{Bound4}
use Rattle.plan_text.specs.Digits.{number_to}
use Rattle.plan_text.specs.Quoted.{text}
use Rattle.plan_words.specs.declared.WordsError.TheVariants.{Unknown, Twice}
use Rattle.plan_words.specs.Word.{mode_words, bound_words, flag_words, lookup, number, value_after, number_word, meaning}
use Rattle.plan_words.specs.Line.{nothing_set, place_of, finished, settled, words_of}

-- a CRC is carried: the protection bit is false
joint : words_of (text "rate=192000\0mode=joint\0crc=1\0fs=48000\0ancillary=16\0")
    ≡ Ok
    (record {
      header = record {
        lsf = false;
        bit_rate = 192000;
        sample_rate = 48000;
        padding = false;
        mode = JointStereo;
        mode_extension = Bound4;
        protection_bit = false;
      };
      banc = 16;
    })
unfolding words_of settled finished nothing_set meaning lookup mode_words bound_words flag_words number_word value_after number number_to
joint = refl

-- the place of the second fs
again : words_of (text "fs=48000\0fs=48000\0mode=mono\0") ≡ Err (Twice (place_of 9 17))
unfolding words_of settled nothing_set meaning lookup mode_words bound_words flag_words number_word value_after number number_to
again = refl

-- a number of 33 bits
too_large : words_of (text "rate=4294967296\0") ≡ Err (Unknown (place_of 0 15))
unfolding words_of settled nothing_set meaning lookup mode_words bound_words flag_words number_word value_after number number_to
too_large = refl
