-- The line that stands alone where the words of a command line cannot be read, or where the words or the input are too long.
use Rattle.std.specs.Prelude.{ℕ, ◌-◌, min, Bool, is_ok, List, [], ◌++◌, take, drop, Result, Ok, Err}
use Rattle.plan_words.specs.declared.WordPlace.{WordPlace}
use Rattle.plan_words.specs.declared.Words.{Words}
use Rattle.plan_words.specs.declared.WordsError.{WordsError}
use Rattle.plan_words.specs.declared.WordsError.TheVariants.{Unknown, Twice, NoSampleRate, NoBitRate}
use Rattle.plan_words.specs.Line.{words_of}
use Rattle.plan_text.specs.Quoted.{text}
use Rattle.text_line.specs.Number.{number_text}

-- words that are not accepted are told without asking for an input
unfoldable pub wants_input : List ℕ → Bool
wants_input words = is_ok (words_of words)

-- a word; of a long one the first 80 bytes
unfoldable pub excerpt : List ℕ → WordPlace → List ℕ
excerpt words p = take (min (p.end - p.at) 80) (drop p.at words)

unfoldable pub unknown_text : List ℕ → WordPlace → List ℕ
unknown_text words p =
    text "cannot read '" ++ excerpt words p
    ++ text "': say fs=, rate= or ancillary= with a whole number; mode=stereo, joint, dual or single; bound=4, 8, 12 or 16; lsf=, padding= or crc= with 0 or 1."

unfoldable pub twice_text : List ℕ → WordPlace → List ℕ
twice_text words p = text "set twice, the second time by '" ++ excerpt words p ++ text "'."

-- what is said of words: nothing where they are accepted
abbrev pub words_line : List ℕ → Result Words WordsError → List ℕ
words_line words (Ok w) = []
words_line words (Err (Unknown p)) = unknown_text words p
words_line words (Err (Twice p)) = twice_text words p
words_line words (Err NoSampleRate) = text "fs is missing: say fs=48000 or another sample rate in Hz."
words_line words (Err NoBitRate) = text "rate is missing: say rate=192000 or another bit rate in bit/s."

-- the line of the input that a note is about
unfoldable pub on_line : ℕ → List ℕ
on_line line = text "line " ++ number_text line

-- of words and of an input that are too long
abbrev pub long_words_line : List ℕ
long_words_line = text "the words are longer than 4095 bytes."

abbrev pub long_input_line : List ℕ
long_input_line = text "the input is longer than 65535 bytes."
