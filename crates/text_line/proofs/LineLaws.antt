-- Laws of lines: a text put behind another, cut at what a line holds.
use mathlib.Core.Path.{◌≡◌, refl, sym, ap, ◌∙◌}
use mathlib.Core.List.{List, [], ◌∷◌, ◌++◌, append_assoc}
use Prim.Native.Nat.{ℕ, zero, suc, ◌+◌, ◌-◌, ◌≤◌, min}
use native.Mathlib.Nat.{le_refl, zero-min, min-zero, suc-min-suc}
use native.Mathlib.Omega.{arith}
use lib.ListN.{length, take, replicate, length-append, length-replicate}
use lib.Seq.{take-nil, take-take, take_all, take-append-add, length-take-le}
use borrow.Rule.Slice.PartMut.{put_mid}
use Rattle.std.proofs.lemmas.Slice.{take-put_mid}
use Rattle.text_line.specs.Line.{cut, spaces, aligned, fed}

-- ---- parts of lists

module _ {A : Type 0} where
  pub take_min : (k : ℕ) (l : List A) → take (min k (length l)) l ≡ take k l
  take_min zero l = ap (λ (n : ℕ). take n l) (zero-min (length l))
  take_min (suc k) [] = take-nil (min (suc k) 0)
  take_min (suc k) (x ∷ xs) = ap (λ (n : ℕ). take n (x ∷ xs)) (suc-min-suc k (length xs)) ∙ ap (λ (r : List A). x ∷ r) (take_min k xs)

  take_front : (n : ℕ) (a b : List A) → take n (take n a ++ b) ≡ take n (a ++ b)
  take_front zero a b = refl
  take_front (suc n) [] b = refl
  take_front (suc n) (x ∷ xs) b = ap (λ (r : List A). x ∷ r) (take_front n xs b)

  take_back : (n m : ℕ) (a b : List A) → n ≤ m → take n (a ++ take m b) ≡ take n (a ++ b)
  take_back n m [] b h = take-take n m b h
  take_back zero m (x ∷ xs) b h = refl
  take_back (suc n) m (x ∷ xs) b h = ap (λ (r : List A). x ∷ r) (take_back n m xs b (omega arith))

  take_replicate : (k n : ℕ) (a : A) → take k (replicate n a) ≡ replicate (min k n) a
  take_replicate zero n a = ap (λ (i : ℕ). replicate i a) (sym (zero-min n))
  take_replicate (suc k) zero a = ap (λ (i : ℕ). replicate i a) (sym (min-zero (suc k)))
  take_replicate (suc k) (suc n) a = ap (λ (r : List A). a ∷ r) (take_replicate k n a) ∙ ap (λ (i : ℕ). replicate i a) (sym (suc-min-suc k n))

-- ---- cut

pub cut_whole : (t : List ℕ) → length t ≤ 256 → cut t ≡ t
unfolding cut
cut_whole t h = take_all 256 t h

pub cut_more : (a b : List ℕ) → cut (cut a ++ b) ≡ cut (a ++ b)
unfolding cut
cut_more a b = take_front 256 a b

-- ---- what the code does

-- as many bytes of a text as fit stand behind the bytes that are there
pub put_behind : (N at k n : ℕ) (bytes added part : List ℕ) → length bytes ≡ N → at ≤ N → n ≡ min (length added) (N - at) → part ≡ take n added
    → take (at + n) (put_mid at k bytes part) ≡ take N (take at bytes ++ added)
put_behind N at k n bytes added part e h m p =
    let front : List ℕ = take at bytes in
    let room : n ≡ min (N - at) (length added) = omega arith in
    let long : length part ≡ n = ap length p ∙ length-take-le n added (omega arith) in
    let there : length front + (N - at) ≡ N = omega (arith, length-take-le at bytes (omega arith)) in
    take-put_mid at k bytes part (at + n) (omega arith) (omega arith)
    ∙ ap (λ (t : List ℕ). front ++ t) (p ∙ ap (λ (i : ℕ). take i added) room ∙ take_min (N - at) added)
    ∙ sym (take-append-add front added (N - at))
    ∙ ap (λ (i : ℕ). take i (front ++ added)) there

-- all of a text has room, and a line feed behind it
pub ended_by : {e r s : List ℕ} (t : List ℕ) → length t ≤ 256 → e ≡ [] → r ≡ take 257 (e ++ t) → s ≡ take 257 (r ++ 10 ∷ []) → s ≡ fed t
ended_by t h ee er es =
    es
    ∙ ap (λ (x : List ℕ). take 257 (x ++ 10 ∷ [])) (er ∙ ap (λ (x : List ℕ). take 257 (x ++ t)) ee ∙ take_all 257 t (omega arith))
    ∙ take_all 257 (fed t) (simp length-append (omega arith))

-- as many spaces as a line holds
pub blanks : {r : List ℕ} (t : List ℕ) (n k : ℕ) → k ≡ min n 256 → r ≡ cut (t ++ take k (spaces 256)) → r ≡ cut (t ++ spaces n)
unfolding cut
blanks t n k e er =
    er ∙ ap (λ (s : List ℕ). take 256 (t ++ s)) same ∙ take_back 256 256 t (replicate n 32) (le_refl 256)
  where
    fewer : min k 256 ≡ min 256 n
    fewer = omega arith

    same : take k (spaces 256) ≡ take 256 (replicate n 32)
    same = take_replicate k 256 32 ∙ ap (λ (i : ℕ). replicate i 32) fewer ∙ sym (take_replicate 256 n 32)

-- ---- for those who build lines

-- a text behind one that is known
pub behind : {l r : List ℕ} (a b : List ℕ) → l ≡ cut a → r ≡ cut (l ++ b) → r ≡ cut (a ++ b)
behind a b el er = er ∙ ap (λ (s : List ℕ). cut (s ++ b)) el ∙ cut_more a b

-- one more behind those that stand behind t
pub more : {l r : List ℕ} (t a b : List ℕ) → l ≡ cut (t ++ a) → r ≡ cut (l ++ b) → r ≡ cut (t ++ (a ++ b))
more t a b el er = behind (t ++ a) b el er ∙ ap cut (append_assoc t a b)

-- a text that a line holds whole, behind nothing
pub alone : {l r : List ℕ} (t : List ℕ) → l ≡ [] → r ≡ cut (l ++ t) → length t ≤ 256 → r ≡ t
alone t el er h = er ∙ ap (λ (s : List ℕ). cut (s ++ t)) el ∙ cut_whole t h

-- a text behind the spaces that align it
pub columned : {l r : List ℕ} (t column : List ℕ) (width n : ℕ) → n ≡ width - length column → l ≡ cut (t ++ spaces n) → r ≡ cut (l ++ column)
    → r ≡ cut (t ++ aligned width column)
unfolding aligned
columned t column width n e el er = more t (spaces n) column el er ∙ ap (λ (i : ℕ). cut (t ++ (spaces i ++ column))) e

-- ---- the length of a column

pub column_length : (width : ℕ) (t : List ℕ) → length (aligned width t) ≤ width + length t
unfolding aligned
column_length width t = simp (length-append, length-replicate) (omega arith)
