-- A table of words, and of what stands beside each of them.
use Rattle.std.specs.Prelude.{ℕ, cond, List, [], ◌∷◌, Option, Some, None}
use denote.Ref.{Bor}
use Rattle.plan_text.specs.Bytes.{same}

-- what stands beside the first entry with a word
unfoldable pub looked_up : {X : Type 0} → List (Bor (List ℕ) × X) → List ℕ → Option X
looked_up [] w = None
looked_up (e ∷ es) w = cond (same w e.0.now) (Some e.1) (looked_up es w)
