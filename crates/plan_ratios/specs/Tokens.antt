-- The tokens of a text of ratios, by its lines: white space separates them, and a comment has none.
use Rattle.std.specs.Prelude.{ℕ, suc, List, [], ◌∷◌, ◌++◌, map}
use Rattle.plan_text.specs.Bytes.{before, pieces}
use Rattle.plan_text.specs.Lines.{ends_line, is_hash, is_blank}

-- the pieces that are not empty
abbrev pub filled : List (List ℕ) → List (List ℕ)
filled [] = []
filled ([] ∷ ts) = filled ts
filled ((b ∷ t) ∷ ts) = (b ∷ t) ∷ filled ts

-- the tokens of a line
abbrev pub line_tokens : List ℕ → List (List ℕ)
line_tokens l = filled (pieces is_blank (before is_hash l))

-- a token, and the number of its line
pub record Token : Type 0 where
  pub line : ℕ
  pub text : List ℕ

abbrev pub on_line : ℕ → List ℕ → Token
on_line n t = record { line = n; text = t }

-- the tokens of lines that are numbered from n on
abbrev pub numbered : ℕ → List (List ℕ) → List Token
numbered n [] = []
numbered n (l ∷ ls) = map (on_line n) (line_tokens l) ++ numbered (suc n) ls

-- the tokens of a text whose first line has the number n
unfoldable pub tokens_from : ℕ → List ℕ → List Token
tokens_from n text = numbered n (pieces ends_line text)
