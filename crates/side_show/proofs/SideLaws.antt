-- Laws of the answer: which page it is.
use mathlib.Core.Path.{◌≡◌, refl, sym, ap, ◌∙◌}
use mathlib.Core.Bool.{Bool, true, false}
use mathlib.Core.List.{List, [], ◌∷◌}
use Prim.Native.Nat.{ℕ, ◌*◌, ◌≤◌, ◌<◌}
use native.Mathlib.Omega.{arith}
use lib.ListN.{length, take}
use borrow.Author.Tests.{le-leb, lt-leb}
use Rattle.header.specs.declared.FrameHeader.{FrameHeader}
use Rattle.plan_words.specs.declared.Words.{Words}
use Rattle.plan_words.specs.declared.WordsError.{WordsError}
use Rattle.plan_words.specs.Line.{words_of}
use Rattle.word_notes.specs.Notes.{words_line, long_words_line, long_input_line}
use Rattle.std.specs.Prelude.{Result, Ok, Err}
use Rattle.std.proofs.lemmas.Result.{IfOk-at_ok}
use Rattle.hex_text.specs.declared.HexError.{HexError}
use Rattle.hex_text.specs.declared.HexError.TheVariants.{WrongCharacter, OddDigits}
use Rattle.hex_text.specs.Hex.{hex_of, counted, HexIs}
use Rattle.side_info_reading.specs.Read.{ReadAnswer, read_of}
use Rattle.side_page.specs.Page.{side_page}
use Rattle.side_show.specs.Notes.{wrong_character_text, odd_digits_text}
use Rattle.side_show.specs.Side.{with_bytes, by_answer, with_input, with_words, side_of}

-- ---- with bytes

pub shown : (h : FrameHeader) (bytes : List ℕ) (r : ReadAnswer) → r ≡ read_of h bytes → side_page h (length bytes) r ≡ with_bytes h bytes
unfolding with_bytes
shown h bytes r e = ap (side_page h (length bytes)) e

-- ---- with an input

module _ (h : FrameHeader) (input : List ℕ) where
  pub input_too_long : (t : List ℕ) → 65_536 ≤ length input → t ≡ long_input_line → t ∷ [] ≡ with_input h input
  unfolding with_input
  input_too_long t l e = rw (le-leb 65_536 (length input) l) (ap (λ (s : List ℕ). s ∷ []) e)

  module _ (l : length input < 65_536) (buffer : List ℕ) (r : Result ℕ HexError) (is : HexIs input buffer r) where
    answered : by_answer h (hex_of input) ≡ with_input h input
    unfolding with_input
    answered = rw (lt-leb 65_536 (length input) l)

    -- half the input has room in the buffer
    pub good_digits : length buffer ≡ 65_536 → (n : ℕ) → r ≡ Ok n → with_bytes h (take n buffer) ≡ with_input h input
    good_digits long n e = go (hex_of input) refl (sym e ∙ is.whole)
      where
        few : 2 * n ≤ length input
        few = IfOk-at_ok (λ (m : ℕ). 2 * m ≤ length input) e is.few

        go : (a : Result (List ℕ) HexError) → hex_of input ≡ a → Ok n ≡ counted a → with_bytes h (take n buffer) ≡ with_input h input
        go (Ok bytes) q f =
            let z : n ≡ length bytes = cc in
            let s = few in
            ap (with_bytes h) (ap (λ (m : ℕ). take m buffer) z ∙ is.bytes bytes q (omega arith))
            ∙ ap (by_answer h) (sym q)
            ∙ answered
        go (Err x) q f = cc

    refused : (x : HexError) → r ≡ Err x → by_answer h (Err x) ≡ with_input h input
    refused x e = go (hex_of input) refl (sym e ∙ is.whole)
      where
        go : (a : Result (List ℕ) HexError) → hex_of input ≡ a → Err x ≡ counted a → by_answer h (Err x) ≡ with_input h input
        go (Ok bytes) q f = cc
        go (Err y) q f =
            let z : x ≡ y = cc in
            ap (λ (u : HexError). by_answer h (Err u)) z ∙ ap (by_answer h) (sym q) ∙ answered

    pub wrong_digit : (line column : ℕ) (t : List ℕ) → r ≡ Err (WrongCharacter line column) → t ≡ wrong_character_text line column → t ∷ [] ≡ with_input h input
    wrong_digit line column t e g = ap (λ (s : List ℕ). s ∷ []) g ∙ refused (WrongCharacter line column) e

    pub digit_over : (line : ℕ) (t : List ℕ) → r ≡ Err (OddDigits line) → t ≡ odd_digits_text line → t ∷ [] ≡ with_input h input
    digit_over line t e g = ap (λ (s : List ℕ). s ∷ []) g ∙ refused (OddDigits line) e

-- ---- the whole answer

module _ (words input : List ℕ) where
  pub words_too_long : (t : List ℕ) → 4096 ≤ length words → t ≡ long_words_line → t ∷ [] ≡ side_of words input
  unfolding side_of
  words_too_long t h e = rw (le-leb 4096 (length words) h) (ap (λ (s : List ℕ). s ∷ []) e)

  module _ (l : length words < 4096) where
    read : (r : Result Words WordsError) → r ≡ words_of words → with_words words r input ≡ side_of words input
    unfolding side_of
    read r e = rw (lt-leb 4096 (length words) l) (ap (λ (x : Result Words WordsError). with_words words x input) e)

    pub good_words : (w : Words) → Ok w ≡ words_of words → with_input w.header input ≡ side_of words input
    good_words w e = read (Ok w) e

    pub bad_words : (x : WordsError) (t : List ℕ) → Err x ≡ words_of words → t ≡ words_line words (Err x) → t ∷ [] ≡ side_of words input
    bad_words x t e g = ap (λ (s : List ℕ). s ∷ []) g ∙ read (Err x) e
