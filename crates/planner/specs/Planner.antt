-- What the planner prints, from the words of its command line, each ended by a byte 0, and from its input.
use Rattle.std.specs.Prelude.{ℕ, ◌*◌, cond, List, [], ◌∷◌, leb, length, Result, Ok, Err}
use Rattle.header.specs.declared.FrameHeader.{FrameHeader}
use Rattle.header.specs.Header.{channels_of}
use Rattle.layout.specs.Slots.{smr_rows}
use Rattle.plan_words.specs.declared.Words.{Words}
use Rattle.plan_words.specs.declared.WordsError.{WordsError}
use Rattle.plan_words.specs.Line.{words_of}
use Rattle.plan_ratios.specs.declared.Ratios.{Ratios}
use Rattle.plan_ratios.specs.declared.RatiosError.{RatiosError}
use Rattle.plan_ratios.specs.Ratios.{ratios_of}
use Rattle.plan_page.specs.Page.{page_of}
use Rattle.word_notes.specs.Notes.{words_line, long_words_line, long_input_line}
use Rattle.planner.specs.Notes.{ratios_line}

-- how many ratios a header asks for: 32 for each channel
abbrev pub slots_for : FrameHeader → ℕ
slots_for h = 32 * channels_of h.mode

-- with ratios: the page, or the line that says what is wrong with them
unfoldable pub with_ratios : Words → Result Ratios RatiosError → List (List ℕ)
with_ratios w (Ok read) = page_of w.header w.banc (smr_rows read.ratios)
with_ratios w (Err e) = ratios_line e (slots_for w.header) ∷ []

-- with words: what the ratios give
unfoldable pub with_words : Words → List ℕ → List (List ℕ)
with_words w input = with_ratios w (ratios_of (slots_for w.header) input)

-- the same, or the line that says what is wrong with the words
unfoldable pub by_words : List ℕ → List ℕ → Result Words WordsError → List (List ℕ)
by_words words input (Ok w) = with_words w input
by_words words input (Err e) = words_line words (Err e) ∷ []

-- the whole answer, line by line
unfoldable pub plan_of : List ℕ → List ℕ → List (List ℕ)
plan_of words input =
    cond (leb 4096 (length words)) (long_words_line ∷ [])
    (cond (leb 65_536 (length input)) (long_input_line ∷ [])
    (by_words words input (words_of words)))
