-- The line of a request that is refused: the answer's number, and what to change.
use Rattle.std.specs.Prelude.{ℕ, Bool, cond, List, [], ◌∷◌, ◌++◌, eqb, Option, None, Some}
use Rattle.tables.specs.Search.{find}
use Rattle.header.specs.declared.FrameHeader.{FrameHeader}
use Rattle.header.specs.Header.{free_format}
use Rattle.ladder.specs.Ladder.{ladder_of, bit_rates}
use Rattle.plan_text.specs.Quoted.{text}
use Rattle.text_line.specs.Number.{number_text}

-- a list of numbers: commas between, and 'or' before the last
abbrev pub one_of_these : List ℕ → List ℕ
one_of_these [] = []
one_of_these (n ∷ []) = number_text n
one_of_these (n ∷ m ∷ []) = number_text n ++ text " or " ++ number_text m
one_of_these (n ∷ m ∷ k ∷ ns) = number_text n ++ text ", " ++ one_of_these (m ∷ k ∷ ns)

-- 16: the rate is off the header's ladder, whose rates are named
unfoldable pub off_ladder_text : Bool → List ℕ
unfolding ladder_of
off_ladder_text lsf =
    cond lsf (text "no such rate with lsf=1: give ") (text "no such rate with lsf=0: give ")
    ++ one_of_these (bit_rates (ladder_of lsf))
    ++ cond lsf (text " bit/s; at 32000, 44100 and 48000 Hz say lsf=0.") (text " bit/s; at 16000, 22050 and 24000 Hz say lsf=1.")

-- 1: no table is selected
unfoldable pub no_table_text : List ℕ
no_table_text =
    text "no allocation table for this rate, mode and fs: at 32000, 44100 and 48000 Hz "
    ++ text "give 32000, 48000, 56000, 64000, 80000, 96000, 112000, 128000, 160000 or 192000 bit/s for each channel; at 16000, 22050 and 24000 Hz say lsf=1."

-- 2
abbrev pub no_sample_rate_text : List ℕ
no_sample_rate_text = text "the sample rate is 0: say fs=24000 or another in Hz."

-- 3, which is never given
abbrev pub too_large_text : List ℕ
too_large_text = text "the frame is over 536870911 bytes: lower rate or raise fs."

-- 4: what is fixed and the ancillary bits are more than the frame has
unfoldable pub too_small_text : ℕ → ℕ → ℕ → List ℕ
too_small_text cb fixed banc =
    text "the frame has " ++ number_text cb ++ text " bits, but " ++ number_text fixed ++ text " are fixed and " ++ number_text banc ++ text " ancillary: "

-- in free format the frame's size is the encoder's own
abbrev pub advice_text : Bool → List ℕ
advice_text free = cond free (text "rate=0 is free format, whose frame size is not known here: give a rate.") (text "raise rate or lower ancillary.")

-- the sentences by the answer's number
abbrev pub sentences : FrameHeader → ℕ → ℕ → ℕ → List (ℕ × List ℕ)
sentences h cb fixed banc =
    (16, off_ladder_text h.lsf)
    ∷ (1, no_table_text)
    ∷ (2, no_sample_rate_text)
    ∷ (3, too_large_text)
    ∷ (4, too_small_text cb fixed banc ++ advice_text (free_format h))
    ∷ []

-- what is said of a number that has no sentence
abbrev pub other_text : List ℕ
other_text = text "what this number says stands in docs/ANSWERS.md."

-- the sentence found, and `other_text` where none is
abbrev pub said : Option (ℕ × List ℕ) → List ℕ
said None = other_text
said (Some x) = x.1

abbrev pub reason_text : FrameHeader → ℕ → ℕ → ℕ → ℕ → List ℕ
reason_text h number cb fixed banc = said (find (λ x. eqb number x.0) (sentences h cb fixed banc))

unfoldable pub refusal_line : FrameHeader → ℕ → ℕ → ℕ → ℕ → List ℕ
refusal_line h number cb fixed banc = text "refused " ++ number_text number ++ text ": " ++ reason_text h number cb fixed banc
