-- What the functions answer, with the bounds that their callers need.
use Rattle.std.specs.Prelude.{ℕ, ◌≤◌, ◌<◌, min, ◌≡◌, Bool, List, Float, Option, Some}
use Rattle.allocation_rounds.specs.declared.Candidate.{Candidate}
use Rattle.allocation_rounds.specs.declared.Run.{Run}
use Rattle.allocation_rounds.specs.Rounds.{Rules, place_in, best, repeated, room, ended}
use Rattle.allocation_rounds.specs.Lent.{lent}

-- the candidate by the rules that are lent, whatever is charged; a field that is one is among the 64 and below place 15
pub record BestIs (places : List ℕ) (closed : List Bool) (fields : ℕ) (tops : List ℕ) (mnrs : List Float) (r : Option Candidate) : Type 0 where
  pub whole : (charges : List ℕ) → r ≡ best (lent fields tops mnrs charges) places closed (min fields 64)
  pub inside : (c : Candidate) → r ≡ Some c → (c.field < 64) × (place_in places c.field < 15)

-- the state that a run goes on to: not more bits are left than before
pub record Onward (s next r : Run) : Type 0 where
  pub whole : r ≡ next
  pub less : r.left ≤ s.left

-- the end of a run: what rounds come to, repeated as often as there are places above the fields that wait, or oftener
pub record Finished (R : Rules) (s r : Run) : Type 0 where
  pub onward : Onward s (ended R s) r
  pub steps : (k : ℕ) → room R s.places s.closed R.fields ≤ k → r ≡ repeated R k s
