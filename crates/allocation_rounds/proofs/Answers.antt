-- The answers and their bounds: what the scan finds is among the 64 and below place 15; a round and a run leave no more bits; and a loop of
-- rounds keeps to the end.
use mathlib.Core.Path.{◌≡◌, sym, ap, ap₂, ◌∙◌}
use mathlib.Core.Bool.{Bool}
use mathlib.Core.List.{List, []}
use Prim.Native.Nat.{ℕ, ◌≤◌, ◌<◌, min}
use native.Mathlib.Omega.{arith}
use lib.Ieee.{Float}
use lib.ListN.{length}
use Rattle.allocation_rounds.specs.declared.Candidate.{Candidate}
use Rattle.std.proofs.Common.{Option, Some, None}
use Rattle.allocation_rounds.specs.declared.Run.{Run}
use Rattle.allocation_rounds.specs.declared.Tables.{Tables}
use Rattle.allocation_rounds.specs.Rounds.{Rules, price, place_in, best, candidate, taken, round, ended, taken_by}
use Rattle.allocation_rounds.specs.Lent.{lent, rules_in}
use Rattle.allocation_rounds.specs.Answers.{BestIs, Onward, Finished}
use Rattle.allocation_rounds.proofs.Scan.{picked, open_below}
use Rattle.allocation_rounds.proofs.Ending.{room_in, taken_falls, taken_length, round_nobody, round_taken, round_keeps, ended_nobody, ended_taken, ended_repeated, ended_keeps}

-- ---- the scan

-- all of them
module _ (places : List ℕ) (closed : List Bool) (fields : ℕ) (tops : List ℕ) (mnrs : List Float) where
  inside : (c : Candidate) → best (lent fields tops mnrs []) places closed (min fields 64) ≡ Some c
      → (c.field < 64) × (place_in places c.field < 15)
  inside c e =
      let pick = picked (lent fields tops mnrs []) places closed (min fields 64) c e in
      let below = pick.below in
      let low = (open_below (lent fields tops mnrs []) places closed c.field pick.waiting).1 in
      (omega arith, omega arith)

  pub best_is : (n : ℕ) (r : Option Candidate) → n ≡ min fields 64
      → ((charges : List ℕ) → r ≡ best (lent fields tops mnrs charges) places closed n) → BestIs places closed fields tops mnrs r
  best_is n r e h = record {
    whole = λ charges. h charges ∙ ap (best (lent fields tops mnrs charges) places closed) e;
    inside = λ c p. inside c (ap (best (lent fields tops mnrs []) places closed) (sym e) ∙ sym (h []) ∙ p);
  }

-- ---- a run goes on

module _ (R : Rules) (s : Run) where
  -- from s: no more bits are left
  abbrev Bounded : Run → Type 0
  Bounded t = t.left ≤ s.left

  onward : (t r : Run) → Bounded t → r ≡ t → Onward s t r
  onward t r b e = record { whole = e; less = rw e b }

  onward_round : (r : Run) → r ≡ round R s → Onward s (round R s) r
  onward_round r = onward (round R s) r (round_keeps R Bounded (λ t f r k b l. omega arith) (λ t f r k b l. b) s (omega arith))

  onward_ended : (r : Run) → r ≡ ended R s → Onward s (ended R s) r
  onward_ended r = onward (ended R s) r (ended_keeps R Bounded (λ t f r k b l. omega arith) (λ t f r k b l. b) s (omega arith))

-- by the rules that are lent, from a state of 64 places whose candidate was found
module _ (t : Tables) (s : Run) (long : length s.places ≡ 64) (c : Option Candidate) (found : BestIs s.places s.closed t.fields t.tops t.mnrs c) where
  abbrev rules : Rules
  rules = rules_in t

  fits : min t.fields 64 ≤ length s.places
  fits = omega arith

  is_candidate : (d : Option Candidate) → c ≡ d → candidate rules s ≡ d
  is_candidate d e = sym (found.whole t.charges) ∙ e

  pub step_over : c ≡ None → Onward s (round rules s) s
  step_over e = onward_round rules s s (sym (round_nobody rules s (is_candidate None e)))

  -- a loop of rounds from s₀ has come to s
  pub loop_over : (s₀ : Run) → length s₀.places ≡ 64 → ended rules s ≡ ended rules s₀ → c ≡ None → Finished rules s₀ s
  loop_over s₀ l same e =
      let whole : s ≡ ended rules s₀ = sym (ended_nobody rules s (is_candidate None e)) ∙ same in
      record {
        onward = onward_ended rules s₀ s whole;
        steps = λ k h. whole ∙ ended_repeated rules s₀ (omega arith) k h;
      }

  -- the candidate has had its turn, at its price
  module _ (d : Candidate) (e : c ≡ Some d) (f p cost : ℕ) (here : (f ≡ d.field) × (p ≡ place_in s.places d.field))
      (priced : cost ≡ price rules f p) (r : Run) (turned : r ≡ taken_by f cost s) where
    is_taken : r ≡ taken rules d.field s
    is_taken = turned ∙ ap₂ (λ (g n : ℕ). taken_by g n s) here.0 (priced ∙ ap₂ (price rules) here.0 here.1)

    pub step_on : Onward s (round rules s) r
    step_on = onward_round rules s r (is_taken ∙ sym (round_taken rules s d (is_candidate (Some d) e)))

    pub loop_falls : room_in rules r < room_in rules s
    loop_falls = rw is_taken (taken_falls rules s d fits (is_candidate (Some d) e))

    pub loop_same : (s₀ : Run) → ended rules s ≡ ended rules s₀ → (length r.places ≡ 64) × (ended rules r ≡ ended rules s₀)
    loop_same s₀ same = (
      ap (λ (r : Run). length r.places) is_taken ∙ (taken_length rules s d.field).0 ∙ long,
      ap (ended rules) is_taken ∙ ended_taken rules s d fits (is_candidate (Some d) e) ∙ same,
    )
