-- How many lines a text has, by its line feeds and its last byte.
use Rattle.std.proofs.Common.{◌≡◌, refl, ◌∙◌, ℕ, zero, suc, ◌+◌, ◌-◌, ◌≤◌, Bool, true, false, cond, not, List, [], ◌∷◌, length, arith}
use mir.Val.{bool_byte}
use Rattle.std.specs.Prelude.{Some, slice_get, filter}
use Rattle.std.proofs.lemmas.Option.{same_Some, slice_get_within}
use Rattle.plan_text.specs.Bytes.{onto, pieces}

-- a byte in front of a piece makes no piece more
onto_some : (b : ℕ) (ws : List (List ℕ)) → 1 ≤ length (onto b ws)
onto_some b [] = omega arith
onto_some b (w ∷ ws) = omega arith

onto_long : (b : ℕ) (ws : List (List ℕ)) → 1 ≤ length ws → length (onto b ws) ≡ length ws
onto_long b [] h = absurd (omega arith)
onto_long b (w ∷ ws) h = refl

module _ (p : ℕ → Bool) where
  some_piece : (b : ℕ) (bs : List ℕ) → 1 ≤ length (pieces p (b ∷ bs))
  some_piece b bs = go (p b)
    where
      go : (t : Bool) → 1 ≤ length (cond t ([] ∷ pieces p bs) (onto b (pieces p bs)))
      go true = omega arith
      go false = onto_some b (pieces p bs)

  lines_long : (bs : List ℕ) (k b : ℕ) → suc k ≡ length bs → slice_get bs k ≡ Some b → length (pieces p bs) ≡ length (filter p bs) + bool_byte (not (p b))
  lines_long [] k b h e = absurd (omega arith)
  lines_long (x ∷ []) (suc k) b h e = absurd (omega arith)
  lines_long (x ∷ []) zero b h e = rw (← same_Some _ _ e) (go (p x))
    where
      go : (t : Bool) → length (cond t ([] ∷ []) ((x ∷ []) ∷ [])) ≡ length (cond t (x ∷ []) []) + bool_byte (not t)
      go true = refl
      go false = refl
  lines_long (x ∷ y ∷ bs) zero b h e = absurd (omega arith)
  lines_long (x ∷ y ∷ bs) (suc k) b h e = go (p x) (lines_long (y ∷ bs) k b (omega arith) e) (some_piece y bs)
    where
      ys : List ℕ
      ys = y ∷ bs

      go : (t : Bool) → length (pieces p ys) ≡ length (filter p ys) + bool_byte (not (p b)) → 1 ≤ length (pieces p ys)
          → length (cond t ([] ∷ pieces p ys) (onto x (pieces p ys))) ≡ length (cond t (x ∷ filter p ys) (filter p ys)) + bool_byte (not (p b))
      go true i s = omega arith
      go false i s = onto_long x (pieces p ys) s ∙ i

  -- one for each byte that ends a line, and one more where the last does not
  pub lines_by_last : (bs : List ℕ) (b : ℕ) → slice_get bs (length bs - 1) ≡ Some b → length (pieces p bs) ≡ length (filter p bs) + bool_byte (not (p b))
  lines_by_last bs b e = let h = slice_get_within bs (length bs - 1) b e in lines_long bs (length bs - 1) b (omega arith) e
