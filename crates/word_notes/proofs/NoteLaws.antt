-- Laws of the lines that stand alone: their lengths, and the word that one names.
use mathlib.Core.Path.{◌≡◌, ap, ap₂, ◌∙◌}
use mathlib.Core.List.{List, ◌++◌}
use Prim.Native.Nat.{ℕ, ◌+◌, ◌-◌, ◌≤◌, ◌<◌, min}
use native.Mathlib.Omega.{arith}
use mathlib.Core.Bool.{Bool, true, false, not}
use lib.Dec.{T, leb, leb→le, nleb→lt}
use lib.ListN.{length, take, drop, length-append, length-take, length-drop}
use Rattle.plan_words.specs.declared.WordPlace.{WordPlace}
use Rattle.text_line.specs.Line.{cut}
use Rattle.text_line.specs.Number.{number_text}
use Rattle.text_line.proofs.LineLaws.{take_min}
use Rattle.text_line.proofs.NumberLaws.{few_digits}
use Rattle.word_notes.specs.Notes.{excerpt, unknown_text, twice_text, on_line}

-- a text behind one that is whole
pub after : {l r : List ℕ} (a b : List ℕ) → l ≡ a → r ≡ cut (l ++ b) → r ≡ cut (a ++ b)
after a b el er = er ∙ ap (λ (s : List ℕ). cut (s ++ b)) el

pub number_length : (n : ℕ) → length (number_text n) ≤ 20
number_length n = few_digits 20 n

pub on_line_length : (n : ℕ) → length (on_line n) ≤ 25
unfolding on_line
on_line_length n = simp length-append (omega (arith, number_length n))

cancel : (a b : ℕ) → a + b - a ≡ b
cancel a b = omega arith

fewest : (x y z : ℕ) → x ≡ min y z → min x 80 ≡ min (min y 80) z
fewest x y z e = omega arith

differences : (at end len last start rest : ℕ) → start ≡ at → last ≡ min end len → rest ≡ len - at → last - start ≡ min (end - at) rest
differences at end len last start rest a b d = omega arith

nothing_left : (at end len last rest : ℕ) → last < at → last ≡ min end len → rest ≡ len - at → 0 ≡ min (min (end - at) 80) rest
nothing_left at end len last rest a b d = omega arith

module _ (words : List ℕ) (p : WordPlace) where
  abbrev at : ℕ
  at = p.at

  abbrev end : ℕ
  end = p.end

  excerpt_length : length (excerpt words p) ≤ 80
  unfolding excerpt
  excerpt_length = omega (arith, length-take (min (end - at) 80) (drop at words))

  pub unknown_length : length (unknown_text words p) ≤ 256
  unfolding unknown_text
  unknown_length = simp length-append (omega (arith, excerpt_length))

  pub twice_length : length (twice_text words p) ≤ 256
  unfolding twice_text
  twice_length = simp length-append (omega (arith, excerpt_length))

  -- the bytes that the code takes
  pub excerpt_is : (last start n : ℕ) → last ≡ min end (length words) → start ≡ min at last → n ≡ min (last - start) 80
      → take (start + n - start) (drop start words) ≡ excerpt words p
  unfolding excerpt
  excerpt_is last start n el es en = go (leb at last) (leb→le at last) (nleb→lt at last)
    where
      go : (b : Bool) → (T b → at ≤ last) → (T (not b) → last < at) → take (start + n - start) (drop start words) ≡ take (min (end - at) 80) (drop at words)
      go true y z =
          let h : at ≤ last = y tt in
          let same : start ≡ at = omega arith in
          let long : length (drop at words) ≡ length words - at = length-drop at words in
          let some : last - start ≡ min (end - at) (length (drop at words)) = differences at end (length words) last start (length (drop at words)) same el long in
          ap₂ (λ (i j : ℕ). take i (drop j words)) (cancel start n ∙ en ∙ fewest (last - start) (end - at) (length (drop at words)) some) same ∙ take_min (min (end - at) 80) (drop at words)
      go false y z =
          let h : last < at = z tt in
          let long : length (drop at words) ≡ length words - at = length-drop at words in
          let zero_left : start + n - start ≡ 0 = omega arith in
          let zero_right : 0 ≡ min (min (end - at) 80) (length (drop at words)) = nothing_left at end (length words) last (length (drop at words)) h el long in
          ap (λ (i : ℕ). take i (drop start words)) zero_left
          ∙ ap (λ (i : ℕ). take i (drop at words)) zero_right
          ∙ take_min (min (end - at) 80) (drop at words)
