-- Laws of texts: equal texts, the first byte that passes a test, and the pieces of a text.
use mathlib.Core.Path.{◌≡◌, refl, sym, ap, ◌∙◌, subst}
use mathlib.Core.Bool.{Bool, true, false, cond, not, ◌&&◌}
use mathlib.Core.List.{List, [], ◌∷◌}
use Prim.Native.Nat.{ℕ, suc, ◌+◌, ◌-◌, ◌≤◌, ◌<◌, min, suc-le-suc}
use native.Mathlib.Nat.{not-suc-le-zero, zero-lt-suc}
use native.Mathlib.Omega.{arith}
use lib.Dec.{T, eqb, ltb}
use lib.ListN.{length, take, drop, drop_of_length-le, length-drop}
use lib.Seq.{drop-drop, take_all}
use borrow.Author.Tests.{ltb-true, ltb-false}
use Rattle.std.specs.Prelude.{bytes_eq, Some, None, position}
use Rattle.std.specs.List.{position_or_len}
use Rattle.std.proofs.lemmas.Option.{none-some, cond_some}
use Rattle.plan_text.specs.Bytes.{same, reach, before, behind, onto, pieces}

-- ---- equal texts

pub both : (a b : Bool) → a && b ≡ true → (a ≡ true) × (b ≡ true)
both true b e = (refl, e)
both false b e = absurd (subst T (sym e) tt)

-- the library's words for it
pub same_is : (xs ys : List ℕ) → same xs ys ≡ bytes_eq xs ys
same_is [] [] = refl
same_is [] (y ∷ ys) = refl
same_is (x ∷ xs) [] = refl
same_is (x ∷ xs) (y ∷ ys) = ap (λ (b : Bool). eqb x y && b) (same_is xs ys)

-- ---- the first byte that passes

module _ (p : ℕ → Bool) where
  pub reach_most : (bs : List ℕ) → reach p bs ≤ length bs
  reach_most [] = omega arith
  reach_most (b ∷ bs) = go (p b) (reach_most bs)
    where
      go : (t : Bool) → reach p bs ≤ length bs → cond t 0 (suc (reach p bs)) ≤ length (b ∷ bs)
      go true h = omega arith
      go false h = suc-le-suc h

  -- the library's words for it
  pub reach_is : (bs : List ℕ) → reach p bs ≡ position_or_len p bs
  reach_is [] = refl
  reach_is (b ∷ bs) = go (p b) (reach_is bs)
    where
      go : (t : Bool) → reach p bs ≡ position_or_len p bs → cond t 0 (suc (reach p bs)) ≡ cond (not t) (1 + position_or_len p bs) 0
      go true h = refl
      go false h = omega arith

  pub reach_some : (bs : List ℕ) (i : ℕ) → Some i ≡ position p bs → reach p bs ≡ i
  reach_some bs i e =
      let h = cond_some (ltb (position_or_len p bs) (length bs)) (position_or_len p bs) i (sym e) in
      reach_is bs ∙ h.1

  pub reach_none : (bs : List ℕ) → None ≡ position p bs → reach p bs ≡ length bs
  reach_none bs e = go (ltb (position_or_len p bs) (length bs)) refl e
    where
      go : (t : Bool) → ltb (position_or_len p bs) (length bs) ≡ t → None ≡ cond t (Some (position_or_len p bs)) None → reach p bs ≡ length bs
      go true f e = absurd (none-some _ e)
      go false f e = let l = ltb-false (position_or_len p bs) (length bs) f in omega (arith, reach_most bs, reach_is bs)

  -- what is found in a text is not past its end
  pub found_most : (text : List ℕ) (i r : ℕ) → i ≤ length text → r ≡ i + reach p (drop i text) → r ≤ length text
  found_most text i r h e = let g = reach_most (drop i text) in let l = length-drop i text in omega arith

-- past a place that may be the end of the text
pub drop_past : {A : Type 0} (t : List A) (r s : ℕ) → s ≡ min (r + 1) (length t) → drop s t ≡ drop (suc r) t
drop_past t r s e = go (ltb r (length t)) refl
  where
    go : (b : Bool) → ltb r (length t) ≡ b → drop s t ≡ drop (suc r) t
    go true h = let l = ltb-true r (length t) h in let z : s ≡ suc r = omega arith in rw z
    go false h =
        let l = ltb-false r (length t) h in
        drop_of_length-le t {i = s} (omega arith) ∙ sym (drop_of_length-le t {i = suc r} (omega arith))

-- the rest of a text from a place on
pub take_rest : {A : Type 0} (t : List A) (s : ℕ) → take (length t - s) (drop s t) ≡ drop s t
take_rest t s = take_all (length t - s) (drop s t) (omega (arith, length-drop s t))

-- ---- the first piece

module _ (p : ℕ → Bool) where
  pub pieces_first : (bs : List ℕ) → 0 < length bs → pieces p bs ≡ before p bs ∷ pieces p (behind p bs)
  pieces_first [] h = absurd (not-suc-le-zero h)
  pieces_first (b ∷ []) h = go (p b)
    where
      go : (t : Bool) → cond t ([] ∷ []) ((b ∷ []) ∷ []) ≡ take (cond t 0 1) (b ∷ []) ∷ pieces p (drop (suc (cond t 0 1)) (b ∷ []))
      go true = refl
      go false = refl
  pieces_first (b ∷ c ∷ bs) h = go (p b) (pieces_first (c ∷ bs) (zero-lt-suc (length bs)))
    where
      cs : List ℕ
      cs = c ∷ bs

      go : (t : Bool) → pieces p cs ≡ before p cs ∷ pieces p (behind p cs)
          → cond t ([] ∷ pieces p cs) (onto b (pieces p cs))
          ≡ take (cond t 0 (suc (reach p cs))) (b ∷ cs) ∷ pieces p (drop (suc (cond t 0 (suc (reach p cs)))) (b ∷ cs))
      go true e = refl
      go false e = ap (onto b) e

  -- as the code cuts it: from i to e, and the next one from s on
  pub pieces_at : (text : List ℕ) (i e s : ℕ) → i < length text → e ≡ i + reach p (drop i text) → s ≡ min (e + 1) (length text)
      → pieces p (drop i text) ≡ take (e - i) (drop i text) ∷ pieces p (drop s text)
  pieces_at text i e s h f g =
      let r = reach p (drop i text) in
      let l = length-drop i text in
      let k : r ≡ e - i = omega arith in
      let m : suc e ≡ i + suc r = omega arith in
      let d : drop (suc r) (drop i text) ≡ drop s text =
      drop-drop (suc r) i text ∙ ap (λ (j : ℕ). drop j text) (sym m) ∙ sym (drop_past text e s g) in
      pieces_first (drop i text) (omega arith)
      ∙ ap (λ (j : ℕ). take j (drop i text) ∷ pieces p (drop (suc r) (drop i text))) k
      ∙ ap (λ (l : List ℕ). take (e - i) (drop i text) ∷ pieces p l) d
