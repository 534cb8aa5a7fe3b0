-- The rounds of the bit allocation of ISO/IEC 11172-3 C.1.5.2.7, over any fields: no header and no table is named here.
-- A field is an allocation field of a frame. It stands at a place of its row, from 0 up to its top place, and rises by one place at a time.
-- A field is open until it is closed; bits are charged for the place at which it stands.
use Rattle.std.specs.Prelude.{ℕ, zero, suc, ◌+◌, ◌-◌, Bool, true, false, not, cond, ◌&&◌, List, Option, Some, None, leb, ltb, Float, get_or, set, replicate}
use Rattle.std.specs.Float.Ieee.{le}
use Rattle.allocation_rounds.specs.declared.Candidate.{Candidate}
use Rattle.allocation_rounds.specs.declared.Run.{Run}

-- What the rounds go by: how many fields there are, and of each field its top place, the mask-to-noise ratio at a place, and the bits that
-- are charged for it at a place.
pub record Rules : Type 0 where
  pub fields : ℕ
  pub top : ℕ → ℕ
  pub mnr : ℕ → ℕ → Float
  pub charge : ℕ → ℕ → ℕ

-- the price of the step that leaves a place: what is charged more at the next
abbrev pub price : Rules → ℕ → ℕ → ℕ
price R f p = R.charge f (p + 1) - R.charge f p

-- the place at which a field stands, and whether it is closed
abbrev pub place_in : List ℕ → ℕ → ℕ
place_in places f = get_or places f 0

abbrev pub closed_in : List Bool → ℕ → Bool
closed_in closed f = get_or closed f true

-- a field waits where it is open and below its top place
abbrev pub waits : Rules → List ℕ → List Bool → ℕ → Bool
waits R places closed f = not (closed_in closed f) && ltb (place_in places f) (R.top f)

-- ---- one round

-- A field is considered: it replaces the candidate unless the candidate's ratio is at most its own. So the first of equals stays, and a NaN
-- is replaced and replaces.
abbrev pub consider : Option Candidate → ℕ → Float → Option Candidate
consider None f r = Some (record { field = f; mnr = r })
consider (Some c) f r = cond (le c.mnr r) (Some c) (Some (record { field = f; mnr = r }))

-- the candidate among the first n fields: those that wait are considered in order
abbrev pub best : Rules → List ℕ → List Bool → ℕ → Option Candidate
best R places closed zero = None
best R places closed (suc n) =
    cond (waits R places closed n)
    (consider (best R places closed n) n (R.mnr n (place_in places n)))
    (best R places closed n)

abbrev pub candidate : Rules → Run → Option Candidate
candidate R s = best R s.places s.closed R.fields

-- too dear: the field is closed where it stands
abbrev pub close_at : ℕ → Run → Run
close_at f s = record { places = s.places; closed = set s.closed f true; left = s.left }

-- else it rises by one place, and the price is taken
abbrev pub raised_by : ℕ → ℕ → Run → Run
raised_by f cost s = record {
  places = set s.places f (place_in s.places f + 1);
  closed = s.closed;
  left = s.left - cost;
}

-- a field's turn at a price
abbrev pub taken_by : ℕ → ℕ → Run → Run
taken_by f cost s = cond (leb cost s.left) (raised_by f cost s) (close_at f s)

-- its turn at the price by the rules
abbrev pub taken : Rules → ℕ → Run → Run
taken R f s = taken_by f (price R f (place_in s.places f)) s

-- a round: the candidate's turn; without one the run is over and nothing changes
abbrev pub turn : Rules → Option Candidate → Run → Run
turn R None s = s
turn R (Some c) s = taken R c.field s

unfoldable pub round : Rules → Run → Run
round R s = turn R (candidate R s) s

-- so many rounds, one after the other
unfoldable pub repeated : Rules → ℕ → Run → Run
unfolding round
repeated R zero s = s
repeated R (suc k) s = repeated R k (round R s)

-- ---- the run

-- rounds until there is no candidate, at most k of them
unfoldable pub rounds : Rules → ℕ → Run → Run
rounds R zero s = s
rounds R (suc k) s = elim (candidate R s) [ None ↦ s | Some c ↦ rounds R k (taken R c.field s) ]

-- the places above the fields that wait: each round takes at least one away
unfoldable pub room : Rules → List ℕ → List Bool → ℕ → ℕ
room R places closed zero = 0
room R places closed (suc n) = room R places closed n + cond (waits R places closed n) (R.top n - place_in places n) 0

-- the end of the run from a state
unfoldable pub ended : Rules → Run → Run
unfolding rounds room
ended R s = rounds R (room R s.places s.closed R.fields) s

-- at the start every field is open at place 0, and the bits left are those offered
abbrev pub started : ℕ → Run
started offered = record { places = replicate 64 0; closed = replicate 64 false; left = offered }
