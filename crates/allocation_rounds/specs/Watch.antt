-- What `finish` keeps of each field beside the state, so that a round finds it in two lists: whether the field waits, and its ratio at its place.
-- For the contracts of private functions alone: nothing that a caller has to believe stands here.
use Rattle.std.specs.Prelude.{ℕ, zero, suc, ◌<◌, ◌≡◌, Bool, true, false, cond, List, Float, Option, None, get_or}
use Rattle.std.specs.Float.{nan}
use Rattle.allocation_rounds.specs.declared.Candidate.{Candidate}
use Rattle.allocation_rounds.specs.Rounds.{Rules, place_in, waits, consider}

-- the candidate among the first n fields, by what is kept
abbrev pub scanned : List Bool → List Float → ℕ → Option Candidate
scanned waiting present zero = None
scanned waiting present (suc n) =
    cond (get_or waiting n false) (consider (scanned waiting present n) n (get_or present n nan)) (scanned waiting present n)

-- what is kept of a field is true of the state
pub record WatchedAt (R : Rules) (places : List ℕ) (closed waiting : List Bool) (present : List Float) (f : ℕ) : Type 0 where
  pub flag : get_or waiting f false ≡ waits R places closed f
  pub mnr : waits R places closed f ≡ true → get_or present f nan ≡ R.mnr f (place_in places f)

-- and of each of the first n fields
pub record Watched (R : Rules) (places : List ℕ) (closed : List Bool) (n : ℕ) (waiting : List Bool) (present : List Float) : Type 0 where
  pub each : (f : ℕ) → f < n → WatchedAt R places closed waiting present f

-- what is kept of one field is brought up to the state, and nothing else is touched
pub record Rewatched (R : Rules) (places : List ℕ) (closed : List Bool) (f : ℕ) (waiting₀ : List Bool) (present₀ : List Float) (waiting : List Bool)
    (present : List Float) : Type 0 where
  pub here : WatchedAt R places closed waiting present f
  pub else_flag : (g : ℕ) → (g ≡ f → ⊥) → get_or waiting g false ≡ get_or waiting₀ g false
  pub else_mnr : (g : ℕ) → (g ≡ f → ⊥) → get_or present g nan ≡ get_or present₀ g nan
