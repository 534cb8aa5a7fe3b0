-- Where a table is searched: the first entry that passes a test, or the last.
use Rattle.std.specs.Prelude.{ℕ, suc, Bool, false, cond, ◌||◌, List, [], ◌∷◌, eqb, Option, None, Some, option_map, slice_get}

module _ {A : Type 0} where
  -- the place of the first, counted from 0
  abbrev pub place : (A → Bool) → List A → Option ℕ
  place f [] = None
  place f (x ∷ xs) = cond (f x) (Some 0) (option_map suc (place f xs))

  -- the place of the last entry that passes
  abbrev pub last_place : (A → Bool) → List A → Option ℕ
  last_place f [] = None
  last_place f (x ∷ xs) = elim (last_place f xs) [ None ↦ cond (f x) (Some 0) None | Some i ↦ Some (suc i) ]

  -- the entry at a place
  abbrev pub entry_at : List A → Option ℕ → Option A
  entry_at xs None = None
  entry_at xs (Some i) = slice_get xs i

  -- the entry itself
  abbrev pub find : (A → Bool) → List A → Option A
  find f xs = entry_at xs (place f xs)

-- whether a number is one of a list's
unfoldable pub one_of : List ℕ → ℕ → Bool
one_of [] n = false
one_of (x ∷ xs) n = eqb n x || one_of xs n
