-- Two sets of rules that agree wherever the rounds look have the same runs: on the fields, on their tops, and on ratios and charges up to there.
use mathlib.Core.Path.{◌≡◌, refl, sym, ap, ap₂, ◌∙◌}
use mathlib.Core.Bool.{Bool, true, false, not, cond, ◌&&◌}
use mathlib.Core.List.{List}
use Prim.Native.Nat.{ℕ, zero, suc, ◌+◌, ◌-◌, ◌≤◌, ◌<◌}
use native.Mathlib.Omega.{arith}
use lib.Dec.{leb, ltb}
use lib.Ieee.{Float}
use lib.ListN.{set}
use Rattle.allocation_rounds.specs.declared.Candidate.{Candidate}
use Rattle.std.proofs.Common.{Option, Some, None}
use Rattle.allocation_rounds.specs.declared.Run.{Run}
use Rattle.allocation_rounds.specs.Rounds.{Rules, price, place_in, closed_in, waits, consider, best, candidate, close_at, taken, rounds, room, ended}
use Rattle.allocation_rounds.proofs.Scan.{open_below, picked}

pub record Agree (R S : Rules) : Type 0 where
  pub fields : R.fields ≡ S.fields
  pub top : (f : ℕ) → f < R.fields → R.top f ≡ S.top f
  pub mnr : (f p : ℕ) → f < R.fields → p < R.top f → R.mnr f p ≡ S.mnr f p
  pub charge : (f p : ℕ) → f < R.fields → p ≤ R.top f → R.charge f p ≡ S.charge f p

-- the rounds after a candidate is known
at_candidate : (R : Rules) (k : ℕ) (s : Run) (c : Option Candidate) → candidate R s ≡ c
    → rounds R (suc k) s ≡ elim c [ None ↦ s | Some c ↦ rounds R k (taken R c.field s) ]
unfolding rounds
at_candidate R k s c e = ap (λ (c : Option Candidate). elim c as (λ x. Run) [ None ↦ s | Some c ↦ rounds R k (taken R c.field s) ]) e

module _ (R S : Rules) (a : Agree R S) where
  same_waits : (places : List ℕ) (closed : List Bool) (f : ℕ) → f < R.fields → waits R places closed f ≡ waits S places closed f
  same_waits places closed f h = ap (λ (t : ℕ). not (closed_in closed f) && ltb (place_in places f) t) (a.top f h)

  same_best : (places : List ℕ) (closed : List Bool) (n : ℕ) → n ≤ R.fields → best R places closed n ≡ best S places closed n
  same_best places closed zero h = refl
  same_best places closed (suc n) h = go (waits R places closed n) refl (same_best places closed n (omega arith))
    where
      go : (w : Bool) → waits R places closed n ≡ w → best R places closed n ≡ best S places closed n
          → best R places closed (suc n) ≡ best S places closed (suc n)
      go true e ih =
          let r = a.mnr n (place_in places n) h (open_below R places closed n e).1 in
          rw (e, sym (same_waits places closed n h) ∙ e) (ap₂ (λ (c : Option Candidate) (q : Float). consider c n q) ih r)
      go false e ih = rw (e, sym (same_waits places closed n h) ∙ e) ih

  same_candidate : (s : Run) → candidate R s ≡ candidate S s
  same_candidate s = same_best s.places s.closed R.fields (omega arith) ∙ ap (best S s.places s.closed) a.fields

  same_taken : (f : ℕ) (s : Run) → f < R.fields → place_in s.places f < R.top f → taken R f s ≡ taken S f s
  same_taken f s h l =
      let p = place_in s.places f in
      let e : price R f p ≡ price S f p = ap₂ (λ (x y : ℕ). x - y) (a.charge f (p + 1) h (omega arith)) (a.charge f p h (omega arith)) in
      ap (λ (c : ℕ). cond (leb c s.left) (record { places = set s.places f (p + 1); closed = s.closed; left = s.left - c }) (close_at f s)) e

  same_rounds : (k : ℕ) (s : Run) → rounds R k s ≡ rounds S k s
  unfolding rounds
  same_rounds zero s = refl
  same_rounds (suc k) s = go (candidate R s) refl (λ t. same_rounds k t)
    where
      go : (c : Option Candidate) → candidate R s ≡ c → ((t : Run) → rounds R k t ≡ rounds S k t) → rounds R (suc k) s ≡ rounds S (suc k) s
      go None e ih = at_candidate R k s None e ∙ sym (at_candidate S k s None (sym (same_candidate s) ∙ e))
      go (Some c) e ih =
          let q = picked R s.places s.closed R.fields c e in
          let t = same_taken c.field s q.below (open_below R s.places s.closed c.field q.waiting).1 in
          at_candidate R k s (Some c) e ∙ ih (taken R c.field s) ∙ ap (rounds S k) t
          ∙ sym (at_candidate S k s (Some c) (sym (same_candidate s) ∙ e))

  same_room : (places : List ℕ) (closed : List Bool) (n : ℕ) → n ≤ R.fields → room R places closed n ≡ room S places closed n
  unfolding room
  same_room places closed zero h = refl
  same_room places closed (suc n) h =
      ap₂ ◌+◌ (same_room places closed n (omega arith))
      (ap₂ (λ (w : Bool) (t : ℕ). cond w (t - place_in places n) 0) (same_waits places closed n h) (a.top n h))

  -- the end of every run is the same
  pub same_end : (s : Run) → ended R s ≡ ended S s
  unfolding ended
  same_end s =
      same_rounds (room R s.places s.closed R.fields) s
      ∙ ap (λ (k : ℕ). rounds S k s)
      (same_room s.places s.closed R.fields (omega arith) ∙ ap (room S s.places s.closed) a.fields)
