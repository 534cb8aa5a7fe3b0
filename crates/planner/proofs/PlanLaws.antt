-- Laws of the answer: which page it is.
use mathlib.Core.Path.{◌≡◌, ap, ◌∙◌}
use mathlib.Core.List.{List, [], ◌∷◌}
use Prim.Native.Nat.{ℕ, ◌≤◌, ◌<◌}
use lib.Ieee.{Float}
use lib.ListN.{length}
use borrow.Author.Tests.{le-leb, lt-leb}
use Rattle.std.specs.Prelude.{Result, Ok, Err}
use Rattle.layout.specs.Slots.{smr_rows}
use Rattle.plan_words.specs.declared.Words.{Words}
use Rattle.plan_words.specs.declared.WordsError.{WordsError}
use Rattle.plan_words.specs.Line.{words_of}
use Rattle.plan_ratios.specs.declared.Ratios.{Ratios}
use Rattle.plan_ratios.specs.declared.RatiosError.{RatiosError}
use Rattle.plan_ratios.specs.Ratios.{ratios_of}
use Rattle.plan_page.specs.Page.{page_of}
use Rattle.word_notes.specs.Notes.{words_line, long_words_line, long_input_line}
use Rattle.planner.specs.Notes.{ratios_line}
use Rattle.planner.specs.Planner.{slots_for, with_ratios, with_words, by_words, plan_of}

-- ---- with words

module _ (w : Words) (input : List ℕ) (slots : ℕ) (q : slots ≡ slots_for w.header) where
  given : (r : Result Ratios RatiosError) → r ≡ ratios_of slots input → with_ratios w r ≡ with_words w input
  unfolding with_words
  given r e = ap (with_ratios w) (e ∙ ap (λ (n : ℕ). ratios_of n input) q)

  pub good_ratios : (r : Ratios) → Ok r ≡ ratios_of slots input → (smr : List (List Float)) → smr ≡ smr_rows r.ratios
      → page_of w.header w.banc smr ≡ with_words w input
  unfolding with_ratios
  good_ratios r e smr f = ap (page_of w.header w.banc) f ∙ given (Ok r) e

  pub bad_ratios : (a : RatiosError) → Err a ≡ ratios_of slots input → (t : List ℕ) → t ≡ ratios_line a slots → t ∷ [] ≡ with_words w input
  unfolding with_ratios
  bad_ratios a e t f = ap (λ (s : List ℕ). s ∷ []) (f ∙ ap (ratios_line a) q) ∙ given (Err a) e

-- ---- the whole answer

module _ (words input : List ℕ) where
  pub words_too_long : (t : List ℕ) → 4096 ≤ length words → t ≡ long_words_line → t ∷ [] ≡ plan_of words input
  unfolding plan_of
  words_too_long t h e = rw (le-leb 4096 (length words) h) (ap (λ (s : List ℕ). s ∷ []) e)

  pub input_too_long : (t : List ℕ) → length words < 4096 → 65_536 ≤ length input → t ≡ long_input_line → t ∷ [] ≡ plan_of words input
  unfolding plan_of
  input_too_long t l h e = rw (lt-leb 4096 (length words) l, le-leb 65_536 (length input) h) (ap (λ (s : List ℕ). s ∷ []) e)

  module _ (l : length words < 4096) (h : length input < 65_536) where
    read : (r : Result Words WordsError) → r ≡ words_of words → by_words words input r ≡ plan_of words input
    unfolding plan_of
    read r e = rw (lt-leb 4096 (length words) l, lt-leb 65_536 (length input) h) (ap (by_words words input) e)

    pub good_words : (w : Words) → Ok w ≡ words_of words → with_words w input ≡ plan_of words input
    unfolding by_words
    good_words w e = read (Ok w) e

    pub bad_words : (e : WordsError) (t : List ℕ) → Err e ≡ words_of words → t ≡ words_line words (Err e) → t ∷ [] ≡ plan_of words input
    unfolding by_words
    bad_words e t q f = ap (λ (s : List ℕ). s ∷ []) f ∙ read (Err e) q
