-- Reading words one behind the other.
use mathlib.Core.Path.{◌≡◌, refl, sym, ap, ◌∙◌}
use mathlib.Core.List.{List, [], ◌∷◌, ◌++◌, append_assoc}
use Prim.Native.Nat.{ℕ, suc, ◌+◌, ◌-◌, ◌≤◌, ◌<◌}
use native.Mathlib.Omega.{arith}
use lib.ListN.{length, take, drop, length-append, length-drop, length-set}
use lib.Seq.{take-add, take-suc-set, take-set-le, drop-set-add}
use Rattle.word_io.specs.Words.{laid, Laid, WordEnded, WordRead, WordsRead}

-- words behind words
laid_behind : (a b : List (List ℕ)) → laid (a ++ b) ≡ laid a ++ laid b
laid_behind [] b = refl
laid_behind (w ∷ ws) b = ap (λ (t : List ℕ). w ++ 0 ∷ t) (laid_behind ws b) ∙ sym (append_assoc w (0 ∷ laid ws) (laid b))

-- what holds before word `i` is read
pub record ReadSoFar (old new : List ℕ) (at i : ℕ) : Type 0 where
  pub within : at ≤ length old
  pub started : 1 ≤ i
  pub same : length new ≡ length old
  pub words : at < length old → Laid (i - 1) (take at new)

pub none_yet : (old : List ℕ) → ReadSoFar old old 0 1
none_yet old = record {
  within = omega arith;
  started = omega arith;
  same = refl;
  words = λ h. record { words = []; all = refl; each = refl };
}

pub one_more : {old new next : List ℕ} {at r i : ℕ} → ReadSoFar old new at i → WordRead new next at r → ReadSoFar old next r (i + 1)
one_more {old} {new} {next} {at} {r} {i} s w = record {
  within = omega (arith, w.within, s.same);
  started = omega arith;
  same = w.same ∙ s.same;
  words = λ h. joined (s.words (omega (arith, w.onward))) (w.word (omega (arith, s.same)));
}
  where
    up : r ≡ at + (r - at)
    up = omega (arith, w.onward)

    joined : Laid (i - 1) (take at new) → Laid 1 (take (r - at) (drop at next)) → Laid (i + 1 - 1) (take r next)
    joined a b = record {
      words = a.words ++ b.words;
      all = length-append a.words b.words ∙ omega (arith, a.all, b.all, s.started);
      each = ap (λ (k : ℕ). take k next) up
          ∙ take-add at (r - at) next
          ∙ ap (λ (t : List ℕ). t ++ take (r - at) (drop at next)) (w.kept ∙ a.each)
          ∙ ap (λ (t : List ℕ). laid a.words ++ t) b.each
          ∙ sym (laid_behind a.words b.words);
    }

pub all_read : {old new : List ℕ} {at i count : ℕ} → ReadSoFar old new at i → count ≤ i → i - 1 ≤ count - 1 → WordsRead count old new at
all_read {old} {new} {at} {i} {count} s l m = record { within = s.within; words = λ h. counted (s.words h) }
  where
    counted : Laid (i - 1) (take at new) → Laid (count - 1) (take at new)
    counted a = record { words = a.words; all = a.all ∙ omega (arith, s.started); each = a.each }

-- a word of `size` bytes, whose byte 0 is put behind it where there is room
pub word_there : (old mid new : List ℕ) (at size r : ℕ) → at ≤ length old → length mid ≡ length old → take at mid ≡ take at old
    → WordEnded mid new (at + size) r → WordRead old new at r
word_there old mid new at size r h e k n = record {
  within = omega arith;
  onward = omega arith;
  same = ap length n.put ∙ length-set mid (at + size) 0 ∙ e;
  kept = ap (take at) n.put ∙ take-set-le at mid (at + size) 0 (omega arith) ∙ k;
  word = λ less. record { words = take size (drop at mid) ∷ []; all = refl; each = written less };
}
  where
    long : r < length old → r - at ≡ suc size
    long less = omega arith

    room : r < length old → size < length (drop at mid)
    room less = omega (arith, length-drop at mid)

    written : r < length old → take (r - at) (drop at new) ≡ take size (drop at mid) ++ 0 ∷ []
    written less =
        ap (λ (n : ℕ). take n (drop at new)) (long less)
        ∙ ap (λ (t : List ℕ). take (suc size) (drop at t)) n.put
        ∙ ap (take (suc size)) (drop-set-add at mid size 0)
        ∙ take-suc-set (drop at mid) size 0 (room less)
