-- The run ends: each round takes away room, so the fuel of `ended` is enough, there is no candidate at the end, and the end is the same from
-- every state on the way. What a close and a raise of the candidate keep holds at the end.
use mathlib.Core.Path.{◌≡◌, refl, sym, ap, ◌∙◌, subst}
use mathlib.Core.Bool.{Bool, true, false, cond, true≢false}
use mathlib.Core.List.{List}
use Prim.Native.Nat.{ℕ, zero, suc, ◌+◌, ◌-◌, ◌≤◌, ◌<◌}
use native.Mathlib.Decide.{dec_lt}
use native.Mathlib.Omega.{arith}
use borrow.Author.Tests.{leb-true, leb-false}
use lib.Dec.{leb}
use lib.Ieee.{Float}
use lib.ListN.{length, length-set, get_or-eq_default}
use lib.Seq.{get_or-set_same, get_or-set_other}
use Rattle.tables.specs.Sum.{sum_below}
use Rattle.allocation_rounds.specs.declared.Candidate.{Candidate}
use Rattle.std.proofs.Common.{Option, Some, None}
use Rattle.allocation_rounds.specs.declared.Run.{Run}
use Rattle.allocation_rounds.specs.Rounds.{Rules, price, place_in, closed_in, waits, candidate, close_at, raised_by, taken, turn, round, repeated, rounds, room, ended}
use Rattle.allocation_rounds.specs.Promises.{Over}
use Rattle.allocation_rounds.proofs.Fields.{one_differs}
use Rattle.allocation_rounds.proofs.Scan.{PickedIn, picked_open, candidate_is, nobody}

-- ---- the candidate's turn

-- the price of a field's next step in a state
abbrev pub cost : Rules → Run → ℕ → ℕ
cost R s f = price R f (place_in s.places f)

-- the field raised at that price
abbrev pub raise_at : Rules → ℕ → Run → Run
raise_at R f s = raised_by f (cost R s f) s

by_cost : (R : Rules) (f : ℕ) (s : Run) (P : Run → Type 0) → (cost R s f ≤ s.left → P (raise_at R f s))
    → (s.left < cost R s f → P (close_at f s)) → P (taken R f s)
by_cost R f s P up shut = go (leb (cost R s f) s.left) refl
  where
    go : (b : Bool) → leb (cost R s f) s.left ≡ b → P (cond b (raise_at R f s) (close_at f s))
    go true e = up (leb-true _ _ e)
    go false e = shut (leb-false _ _ e)

pub raise_here : (R : Rules) (s : Run) (f : ℕ) → f < length s.places → place_in (raise_at R f s).places f ≡ place_in s.places f + 1
raise_here R s f = get_or-set_same s.places f (place_in s.places f + 1) 0

pub raise_else : (R : Rules) (s : Run) (f k : ℕ) → (k ≡ f → ⊥) → place_in (raise_at R f s).places k ≡ place_in s.places k
raise_else R s f k = get_or-set_other s.places f k (place_in s.places f + 1) 0

-- an open field has its flag in the list
open_inside : (closed : List Bool) (f : ℕ) → closed_in closed f ≡ false → f < length closed
open_inside closed f e = go (dec_lt f (length closed))
  where
    go : Dec (f < length closed) → f < length closed
    go (yes l) = l
    go (no l) = absurd (true≢false (sym (get_or-eq_default closed true (omega arith)) ∙ e))

pub close_here : (s : Run) (f : ℕ) → closed_in s.closed f ≡ false → closed_in (close_at f s).closed f ≡ true
close_here s f e = get_or-set_same s.closed f true true (open_inside s.closed f e)

pub close_else : (s : Run) (f k : ℕ) → (k ≡ f → ⊥) → closed_in (close_at f s).closed k ≡ closed_in s.closed k
close_else s f k = get_or-set_other s.closed f k true true

-- ---- room

-- the room that a state has
abbrev pub room_in : Rules → Run → ℕ
room_in R s = room R s.places s.closed R.fields

-- a field's part of the room
abbrev part : Rules → List ℕ → List Bool → ℕ → ℕ
part R places closed f = cond (waits R places closed f) (R.top f - place_in places f) 0

room_sum : (R : Rules) (places : List ℕ) (closed : List Bool) (n : ℕ) → room R places closed n ≡ sum_below n (part R places closed)
unfolding room
room_sum R places closed zero = refl
room_sum R places closed (suc n) = ap (λ (k : ℕ). k + part R places closed n) (room_sum R places closed n)

-- the room falls where only one field's part changes, and that falls
falls : (R : Rules) (s t : Run) (f : ℕ) → f < R.fields
    → ((k : ℕ) → (k ≡ f → ⊥) → part R t.places t.closed k ≡ part R s.places s.closed k)
    → part R t.places t.closed f < part R s.places s.closed f → room_in R t < room_in R s
falls R s t f l same less =
    let e = one_differs (part R t.places t.closed) (part R s.places s.closed) f R.fields l same in
    let a = room_sum R s.places s.closed R.fields in
    let b = room_sum R t.places t.closed R.fields in
    omega arith

cond_le : (b : Bool) (n : ℕ) → cond b n 0 ≤ n
cond_le true n = omega arith
cond_le false n = omega arith

module _ (R : Rules) (s : Run) (f : ℕ) (r : Float) (pick : PickedIn R s f r) where
  part_now : part R s.places s.closed f ≡ R.top f - place_in s.places f
  part_now = rw pick.waiting

  close_falls : room_in R (close_at f s) < room_in R s
  close_falls =
      let o = picked_open R s f r pick in
      let now = part_now in
      let then : part R s.places (close_at f s).closed f ≡ 0 = rw (close_here s f o.0) in
      falls R s (close_at f s) f pick.below (λ k ne. rw (close_else s f k ne)) (omega arith)

  raise_falls : R.fields ≤ length s.places → room_in R (raise_at R f s) < room_in R s
  raise_falls fit =
      let t = raise_at R f s in
      let o = picked_open R s f r pick in
      let b = pick.below in
      let now = part_now in
      let next = raise_here R s f (omega arith) in
      let then = cond_le (waits R t.places s.closed f) (R.top f - place_in t.places f) in
      falls R s t f b (λ k ne. rw (raise_else R s f k ne)) (omega arith)

-- ---- rounds

module _ (R : Rules) where
  -- every field has its place in the list
  abbrev Fit : Run → Type 0
  Fit s = R.fields ≤ length s.places

  pub taken_falls : (s : Run) (c : Candidate) → Fit s → candidate R s ≡ Some c → room_in R (taken R c.field s) < room_in R s
  taken_falls s c fit e =
      let pick = candidate_is R s c e in
      by_cost R c.field s (λ t. room_in R t < room_in R s) (λ l. raise_falls R s c.field c.mnr pick fit) (λ l. close_falls R s c.field c.mnr pick)

  pub taken_length : (s : Run) (f : ℕ)
      → (length (taken R f s).places ≡ length s.places) × (length (taken R f s).closed ≡ length s.closed)
  taken_length s f =
      by_cost R f s (λ t. (length t.places ≡ length s.places) × (length t.closed ≡ length s.closed))
      (λ l. (simp length-set, refl)) (λ l. (refl, simp length-set))

  rounds_over : (k : ℕ) (s : Run) → candidate R s ≡ None → rounds R k s ≡ s
  unfolding rounds
  rounds_over zero s e = refl
  rounds_over (suc k) s e = rw (e, rounds)

  rounds_on : (k : ℕ) (s : Run) (c : Candidate) → candidate R s ≡ Some c → rounds R (suc k) s ≡ rounds R k (taken R c.field s)
  unfolding rounds
  rounds_on k s c e = rw (e, rounds)

  -- what survives the candidate's turn holds after any number of rounds
  along : (P : Run → Type 0) → ((s : Run) (c : Candidate) → candidate R s ≡ Some c → P s → P (taken R c.field s))
      → (k : ℕ) (s : Run) → P s → P (rounds R k s)
  unfolding rounds
  along P step zero s p = p
  along P step (suc k) s p = go (along P step k) (candidate R s) refl
    where
      go : ((s : Run) → P s → P (rounds R k s)) → (c : Option Candidate) → candidate R s ≡ c → P (rounds R (suc k) s)
      go rest None e = subst P (sym (rounds_over (suc k) s e)) p
      go rest (Some c) e = subst P (sym (rounds_on k s c e)) (rest (taken R c.field s) (step s c e p))

  -- k rounds are enough: there is no candidate, and more rounds change nothing
  abbrev Settled : ℕ → Run → Type 0
  Settled k s = (candidate R (rounds R k s) ≡ None) × ((j : ℕ) → k ≤ j → rounds R j s ≡ rounds R k s)

  settled_over : (k : ℕ) (s : Run) → candidate R s ≡ None → Settled k s
  settled_over k s e = (rw (rounds_over k s e) e, λ j l. rounds_over j s e ∙ sym (rounds_over k s e))

  settled_on : (k : ℕ) (s : Run) (c : Candidate) → candidate R s ≡ Some c → Settled k (taken R c.field s) → Settled (suc k) s
  settled_on k s c e t = (rw (rounds_on k s c e) t.0, more)
    where
      more : (j : ℕ) → suc k ≤ j → rounds R j s ≡ rounds R (suc k) s
      more zero m = absurd (omega arith)
      more (suc j) m = rounds_on j s c e ∙ t.1 j (omega arith) ∙ sym (rounds_on k s c e)

  settled : (k : ℕ) (s : Run) → Fit s → room_in R s ≤ k → Settled k s
  settled zero s fit h = go (candidate R s) refl
    where
      go : (c : Option Candidate) → candidate R s ≡ c → Settled zero s
      go None e = settled_over zero s e
      go (Some c) e = let l = taken_falls s c fit e in absurd (omega arith)
  settled (suc k) s fit h = go (settled k) (candidate R s) refl
    where
      go : ((s : Run) → Fit s → room_in R s ≤ k → Settled k s) → (c : Option Candidate) → candidate R s ≡ c → Settled (suc k) s
      go rest None e = settled_over (suc k) s e
      go rest (Some c) e =
          let l = taken_falls s c fit e in
          let n = (taken_length s c.field).0 in
          settled_on k s c e (rest (taken R c.field s) (omega arith) (omega arith))

  -- ---- laws of the end

  -- there is no candidate at the end, so nobody waits
  pub ended_over : (s : Run) → Fit s → candidate R (ended R s) ≡ None
  unfolding ended
  ended_over s fit = (settled (room_in R s) s fit (omega arith)).0

  pub over : (s : Run) → Fit s → Over R (ended R s)
  over s fit = nobody R (ended R s).places (ended R s).closed R.fields (ended_over s fit)

  -- the end is the same from every state on the way
  pub ended_nobody : (s : Run) → candidate R s ≡ None → ended R s ≡ s
  unfolding ended
  ended_nobody s e = rounds_over (room_in R s) s e

  pub ended_taken : (s : Run) (c : Candidate) → Fit s → candidate R s ≡ Some c → ended R (taken R c.field s) ≡ ended R s
  unfolding ended
  ended_taken s c fit e = go (room_in R s) refl
    where
      go : (k : ℕ) → room_in R s ≡ k → rounds R (room_in R (taken R c.field s)) (taken R c.field s) ≡ rounds R k s
      go zero z = let l = taken_falls s c fit e in absurd (omega arith)
      go (suc k) z =
          let l = taken_falls s c fit e in
          let n = (taken_length s c.field).0 in
          sym ((settled (room_in R (taken R c.field s)) (taken R c.field s) (omega arith) (omega arith)).1 k (omega arith)) ∙ sym (rounds_on k s c e)

  -- ---- a round is the candidate's turn

  pub round_is : (s : Run) → round R s ≡ turn R (candidate R s) s
  unfolding round
  round_is s = refl

  pub round_nobody : (s : Run) → candidate R s ≡ None → round R s ≡ s
  round_nobody s e = round_is s ∙ ap (λ (c : Option Candidate). turn R c s) e

  pub round_taken : (s : Run) (c : Candidate) → candidate R s ≡ Some c → round R s ≡ taken R c.field s
  round_taken s c e = round_is s ∙ ap (λ (c : Option Candidate). turn R c s) e

  -- rounds one after the other are the rounds until there is no candidate

  repeated_over : (k : ℕ) (s : Run) → candidate R s ≡ None → repeated R k s ≡ s
  unfolding repeated
  repeated_over zero s e = refl
  repeated_over (suc k) s e = ap (repeated R k) (round_nobody s e) ∙ repeated_over k s e

  repeated_rounds : (k : ℕ) (s : Run) → repeated R k s ≡ rounds R k s
  unfolding repeated rounds
  repeated_rounds zero s = refl
  repeated_rounds (suc k) s = go (repeated_rounds k) (candidate R s) refl
    where
      go : ((s : Run) → repeated R k s ≡ rounds R k s) → (c : Option Candidate) → candidate R s ≡ c → repeated R (suc k) s ≡ rounds R (suc k) s
      go rest None e = repeated_over (suc k) s e ∙ sym (rounds_over (suc k) s e)
      go rest (Some c) e = ap (repeated R k) (round_taken s c e) ∙ rest (taken R c.field s) ∙ sym (rounds_on k s c e)

  pub ended_repeated : (s : Run) → Fit s → (k : ℕ) → room_in R s ≤ k → ended R s ≡ repeated R k s
  unfolding ended
  ended_repeated s fit k l = sym ((settled (room_in R s) s fit (omega arith)).1 k l) ∙ sym (repeated_rounds k s)

  -- ---- what survives a raise of the candidate that is paid for, and a close of it that is too dear, holds after a round and at the end

  module _ (P : Run → Type 0)
      (up : (s : Run) (f : ℕ) (r : Float) → PickedIn R s f r → P s → cost R s f ≤ s.left → P (raise_at R f s))
      (shut : (s : Run) (f : ℕ) (r : Float) → PickedIn R s f r → P s → s.left < cost R s f → P (close_at f s)) where
    taken_keeps : (s : Run) (c : Candidate) → candidate R s ≡ Some c → P s → P (taken R c.field s)
    taken_keeps s c e p = let pick = candidate_is R s c e in by_cost R c.field s P (up s c.field c.mnr pick p) (shut s c.field c.mnr pick p)

    pub round_keeps : (s : Run) → P s → P (round R s)
    round_keeps s p = subst P (sym (round_is s)) (go (candidate R s) refl)
      where
        go : (c : Option Candidate) → candidate R s ≡ c → P (turn R c s)
        go None e = p
        go (Some c) e = taken_keeps s c e p

    pub ended_keeps : (s : Run) → P s → P (ended R s)
    unfolding ended
    ended_keeps s p = along P taken_keeps (room_in R s) s p
