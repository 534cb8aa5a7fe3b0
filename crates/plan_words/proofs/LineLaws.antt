-- The words of a line, met one by one.
use mathlib.Core.Path.{◌≡◌, refl, sym, ap, ◌∙◌}
use mathlib.Core.Bool.{Bool, true, false}
use mathlib.Core.List.{List, ◌∷◌}
use Prim.Native.Nat.{ℕ, ◌+◌, ◌-◌, ◌≤◌, ◌<◌, min}
use native.Mathlib.Omega.{arith}
use lib.Dec.{ltb}
use lib.ListN.{length, take, drop, length-drop, drop_of_length-le}
use lib.Seq.{length-take-le}
use borrow.Author.Tests.{ltb-true, ltb-false}
use Rattle.std.specs.Prelude.{Some, None, Err}
use Rattle.plan_text.specs.Bytes.{reach, pieces}
use Rattle.plan_text.proofs.ByteLaws.{pieces_at, found_most}
use Rattle.plan_words.specs.declared.Setting.{Setting}
use Rattle.plan_words.specs.declared.Settings.{Settings}
use Rattle.plan_words.specs.declared.WordsError.TheVariants.{Unknown, Twice}
use Rattle.plan_words.specs.Word.{meaning}
use Rattle.plan_words.specs.Line.{nothing_set, Word, place_of, placed, is_end, once, finished, settled, words_of}

-- the words from a place on
abbrev pub words_from : ℕ → List ℕ → List Word
words_from i text = placed i (pieces is_end (drop i text))

-- the first of them, as the code cuts it: from i to e, and the next one from s on
module _ (text : List ℕ) (i e s : ℕ) (h : i < length text) (f : e ≡ i + reach is_end (drop i text)) (g : s ≡ min (e + 1) (length text)) where
  within : e ≤ length text
  within = found_most is_end text i e (omega arith) f

  ends : i + length (take (e - i) (drop i text)) ≡ e
  ends =
      let w = within in
      let l = length-take-le (e - i) (drop i text) (omega (arith, length-drop i text)) in
      omega arith

  next : placed (e + 1) (pieces is_end (drop s text)) ≡ words_from s text
  next = go (ltb e (length text)) refl
    where
      go : (b : Bool) → ltb e (length text) ≡ b → placed (e + 1) (pieces is_end (drop s text)) ≡ words_from s text
      go true z =
          let l = ltb-true e (length text) z in
          let q : s ≡ e + 1 = omega arith in
          ap (λ (n : ℕ). placed n (pieces is_end (drop s text))) (sym q)
      go false z =
          let l = ltb-false e (length text) z in
          let q = drop_of_length-le text {i = s} (omega arith) in
          rw q

  pub first_word : words_from i text ≡ record { place = place_of i e; text = take (e - i) (drop i text) } ∷ words_from s text
  first_word =
      ap (placed i) (pieces_at is_end text i e s h f g)
      ∙ ap
      (λ (n : ℕ). record { place = place_of i n; text = take (e - i) (drop i text) } ∷ placed (n + 1) (pieces is_end (drop s text)))
      ends
      ∙ ap (λ (ws : List Word). record { place = place_of i e; text = take (e - i) (drop i text) } ∷ ws) next

-- ---- the answer

module _ (s : Settings) (w : Word) (ws : List Word) where
  unknown : None ≡ meaning w.text → settled s (w ∷ ws) ≡ Err (Unknown w.place)
  unfolding settled
  unknown e = rw (sym e)

  module _ (m : Setting) (known : Some m ≡ meaning w.text) where
    twice : None ≡ once s m → settled s (w ∷ ws) ≡ Err (Twice w.place)
    unfolding settled
    twice e = rw (sym known, sym e)

    one_more : (t : Settings) → Some t ≡ once s m → settled s (w ∷ ws) ≡ settled t ws
    unfolding settled
    one_more t e = rw (sym known, sym e)

pub at_last : (s : Settings) (text : List ℕ) (i : ℕ) → length text ≤ i → settled s (words_from i text) ≡ finished s
unfolding settled
at_last s text i h = rw (drop_of_length-le text h)

-- ---- as the code meets a word

module _ (text : List ℕ) (st : Settings) (i e : ℕ) (h : i < length text) (f : e ≡ i + reach is_end (drop i text))
    (left : words_of text ≡ settled st (words_from i text)) where
  word : Word
  word = record { place = place_of i e; text = take (e - i) (drop i text) }

  met : (s : ℕ) → s ≡ min (e + 1) (length text) → words_of text ≡ settled st (word ∷ words_from s text)
  unfolding word
  met s g = left ∙ ap (settled st) (first_word text i e s h f g)

  pub at_unknown : None ≡ meaning (take (e - i) (drop i text)) → words_of text ≡ Err (Unknown (place_of i e))
  unfolding word
  at_unknown q = let s = min (e + 1) (length text) in met s refl ∙ unknown st word (words_from s text) q

  module _ (m : Setting) (known : Some m ≡ meaning (take (e - i) (drop i text))) where
    pub at_twice : None ≡ once st m → words_of text ≡ Err (Twice (place_of i e))
    unfolding word
    at_twice q = let s = min (e + 1) (length text) in met s refl ∙ twice st word (words_from s text) m known q

    pub at_once : (s : ℕ) (t : Settings) → s ≡ min (e + 1) (length text) → Some t ≡ once st m → words_of text ≡ settled t (words_from s text)
    unfolding word
    at_once s t g q = met s g ∙ one_more st word (words_from s text) m known t q

-- ---- before the first word

-- every setting's default is that it is not given
pub none_given : (s : Settings) → s.sample_rate ≡ None → s.bit_rate ≡ None → s.mode ≡ None → s.bound ≡ None → s.lsf ≡ None → s.padding ≡ None → s.crc ≡ None
    → s.ancillary ≡ None → s ≡ nothing_set
unfolding nothing_set
none_given s a b c d e f g h =
    λ i. record { sample_rate = a i; bit_rate = b i; mode = c i; bound = d i; lsf = e i; padding = f i; crc = g i; ancillary = h i }
