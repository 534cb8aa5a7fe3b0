-- What the program prints, from the words of its command line, each ended by a byte 0, and from its input.
use Rattle.std.specs.Prelude.{ℕ, cond, List, [], ◌∷◌, leb, length, Result, Ok, Err}
use Rattle.header.specs.declared.FrameHeader.{FrameHeader}
use Rattle.plan_words.specs.declared.Words.{Words}
use Rattle.plan_words.specs.declared.WordsError.{WordsError}
use Rattle.plan_words.specs.Line.{words_of}
use Rattle.word_notes.specs.Notes.{words_line, long_words_line, long_input_line}
use Rattle.hex_text.specs.declared.HexError.{HexError}
use Rattle.hex_text.specs.declared.HexError.TheVariants.{WrongCharacter, OddDigits}
use Rattle.hex_text.specs.Hex.{hex_of}
use Rattle.side_info_reading.specs.Read.{read_of}
use Rattle.side_page.specs.Page.{side_page}
use Rattle.side_show.specs.Notes.{wrong_character_text, odd_digits_text}

-- with bytes: the page of the side information that they begin with
unfoldable pub with_bytes : FrameHeader → List ℕ → List (List ℕ)
with_bytes h bytes = side_page h (length bytes) (read_of h bytes)

-- by what the digits of the input are answered: the page, or the line that says what is wrong with them
abbrev pub by_answer : FrameHeader → Result (List ℕ) HexError → List (List ℕ)
by_answer h (Ok bytes) = with_bytes h bytes
by_answer h (Err (WrongCharacter line column)) = wrong_character_text line column ∷ []
by_answer h (Err (OddDigits line)) = odd_digits_text line ∷ []

-- with an input
unfoldable pub with_input : FrameHeader → List ℕ → List (List ℕ)
with_input h input =
    cond (leb 65_536 (length input)) (long_input_line ∷ [])
    (by_answer h (hex_of input))

-- with words: what the input gives, or the line that says what is wrong with the words. Ancillary bits change nothing.
abbrev pub with_words : List ℕ → Result Words WordsError → List ℕ → List (List ℕ)
with_words words (Ok w) input = with_input w.header input
with_words words (Err e) input = words_line words (Err e) ∷ []

-- the whole answer, line by line
unfoldable pub side_of : List ℕ → List ℕ → List (List ℕ)
side_of words input = cond (leb 4096 (length words)) (long_words_line ∷ []) (with_words words (words_of words) input)
