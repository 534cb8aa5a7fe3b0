-- Texts as lists of bytes: where a byte is first found, and the pieces between separators.
use Rattle.std.specs.Prelude.{ℕ, suc, Bool, true, false, cond, ◌&&◌, List, [], ◌∷◌, eqb, take, drop}

-- whether two texts are the same
abbrev pub same : List ℕ → List ℕ → Bool
same [] [] = true
same [] (y ∷ ys) = false
same (x ∷ xs) [] = false
same (x ∷ xs) (y ∷ ys) = eqb x y && same xs ys

-- how many bytes stand before the first that passes a test; all of them where none does
abbrev pub reach : (ℕ → Bool) → List ℕ → ℕ
reach p [] = 0
reach p (b ∷ bs) = cond (p b) 0 (suc (reach p bs))

-- what stands before that byte, and what stands behind it
abbrev pub before : (ℕ → Bool) → List ℕ → List ℕ
before p bs = take (reach p bs) bs

abbrev pub behind : (ℕ → Bool) → List ℕ → List ℕ
behind p bs = drop (suc (reach p bs)) bs

-- a byte in front of the first piece
abbrev pub onto : ℕ → List (List ℕ) → List (List ℕ)
onto b [] = (b ∷ []) ∷ []
onto b (w ∷ ws) = (b ∷ w) ∷ ws

-- the pieces of a text, each of which is ended by a byte that passes the test, or by the end of the text
abbrev pub pieces : (ℕ → Bool) → List ℕ → List (List ℕ)
pieces p [] = []
pieces p (b ∷ bs) = cond (p b) ([] ∷ pieces p bs) (onto b (pieces p bs))
