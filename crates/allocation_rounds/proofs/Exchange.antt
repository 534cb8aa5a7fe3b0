-- The exchange rule at the end of a run from the start, for ratios that are no NaN and never fall. The claim is made stronger: the premise
-- also says that the second field is closed. So a raise of the second is ruled out, and at a raise of the first, which has the least ratio of
-- those that wait, the second is closed and too dear.
use mathlib.Core.Path.{◌≡◌, refl, sym, ◌∙◌}
use mathlib.Core.Bool.{Bool, true, false, true≢false}
use Prim.Native.Nat.{ℕ, ◌+◌, ◌-◌, ◌≤◌, ◌<◌}
use native.Mathlib.Omega.{arith}
use lib.Dec.{T}
use lib.Ieee.{Float, lt, le, is_nan}
use Rattle.allocation_rounds.specs.declared.Run.{Run}
use Rattle.allocation_rounds.specs.Rounds.{Rules, price, place_in, closed_in, waits, close_at, round, ended, started}
use Rattle.allocation_rounds.specs.Promises.{Counting, Rising, Exchanged}
use Rattle.allocation_rounds.proofs.Fields.{either}
use Rattle.allocation_rounds.proofs.Order.{Order, not_both, below_trans}
use Rattle.allocation_rounds.proofs.Scan.{PickedIn, picked_open, picked_least, closed_below}
use Rattle.allocation_rounds.proofs.Ending.{cost, raise_at, raise_here, raise_else, close_here, close_else, round_keeps, ended_keeps}
use Rattle.allocation_rounds.proofs.OnTheWay.{OnTheWay, zeros, way_start, way_raised, way_closed}

-- The rule for fields f and g at places p and q: where g's ratio is below f's before its last step, g is closed, and giving that step up
-- would not buy g's next.
abbrev pub Rule : Rules → ℕ → ℕ → ℕ → ℕ → Bool → ℕ → Type 0
Rule R f g p q isClosed left =
    f < R.fields → g < R.fields → 0 < p → q < R.top g → T (lt (R.mnr g q) (R.mnr f (p - 1)))
    → (isClosed ≡ true) × (price R f (p - 1) + left < price R g q)

-- a state on the way that keeps the rule
pub record Fair (R : Rules) (offered : ℕ) (s : Run) : Type 0 where
  pub way : OnTheWay R offered s
  pub rule : (f g : ℕ) → Rule R f g (place_in s.places f) (place_in s.places g) (closed_in s.closed g) s.left

module _ (O : Order) (R : Rules) (C : Counting R) (U : Rising R) (offered : ℕ) where
  pub fair_start : Fair R offered (started offered)
  fair_start = record { way = way_start R C offered; rule = λ f g l m z. absurd (let e = zeros 64 f in omega arith) }

  -- ---- c is the candidate

  module _ (s : Run) (c : ℕ) (r : Float) (pick : PickedIn R s c r) (fair : Fair R offered s) where
    abbrev at : ℕ → ℕ
    at f = place_in s.places f

    is_open : closed_in s.closed c ≡ false
    is_open = (picked_open R s c r pick).0

    low : at c < R.top c
    low = (picked_open R s c r pick).1

    number : (f : ℕ) → f < R.fields → at f < R.top f → is_nan (R.mnr f (at f)) ≡ false
    number f l h = U.number f (at f) l (omega arith)

    rises : T (le (R.mnr c (at c)) (R.mnr c (at c + 1)))
    rises = U.rises c (at c) pick.below low

    back : at c + 1 - 1 ≡ at c
    back = omega arith

    fair_closed : s.left < cost R s c → Fair R offered (close_at c s)
    fair_closed dear = record {
      way = way_closed R C offered s c r pick fair.way dear;
      rule = λ f.
          either (λ g. Rule R f g (at f) (at g) (closed_in (close_at c s).closed g) s.left) c
          (λ l m z h b. (close_here s c is_open, (fair.rule f c l m z h b).1))
          (λ g ne. rw (close_else s c g ne) (fair.rule f g));
    }

    -- a raise of both, which are the same: against ratios that never fall
    both : (b : Bool) (left : ℕ) → Rule R c c (at c + 1) (at c + 1) b left
    both b left l m z h =
        rw back (λ below. absurd (not_both O _ _ (U.number c (at c + 1) m (omega arith)) (number c m low) below rises))

    -- a raise of the first alone: the second is none of those that wait, so it is closed and too dear
    first : (g : ℕ) → cost R s c ≤ s.left → Rule R c g (at c + 1) (at g) (closed_in s.closed g) (s.left - cost R s c)
    first g paid l m z h = rw back (λ below. go below (waits R s.places s.closed g) refl)
      where
        go : T (lt (R.mnr g (at g)) (R.mnr c (at c))) → (b : Bool) → waits R s.places s.closed g ≡ b
            → (closed_in s.closed g ≡ true) × (cost R s c + (s.left - cost R s c) < cost R s g)
        go below true w =
            let least = picked_least O R U s c r pick g m w in
            absurd (not_both O _ _ (number g m h) (number c l low) below (rw pick.at at least))
        go below false w =
            let isClosed = closed_below R s.places s.closed g w h in
            let dear = fair.way.dear g m isClosed h in
            (isClosed, omega arith)

    -- a raise of the second alone: it would have been closed before
    second : (f : ℕ) (left : ℕ) → Rule R f c (at f) (at c + 1) (closed_in s.closed c) left
    second f left l m z h below =
        let within = fair.way.within f l in
        let b =
        below_trans O _ _ _ (number c m low) (U.number c (at c + 1) m (omega arith)) (U.number f (at f - 1) l (omega arith))
        rises below in
        absurd (true≢false (sym (fair.rule f c l m z low b).0 ∙ is_open))

    -- a raise of neither
    neither : (f g : ℕ) (paid : ℕ) → Rule R f g (at f) (at g) (closed_in s.closed g) (s.left - paid)
    neither f g paid l m z h below =
        let rule = fair.rule f g l m z h below in
        let short = rule.1 in
        (rule.0, omega arith)

    fair_raised : cost R s c ≤ s.left → Fair R offered (raise_at R c s)
    fair_raised paid = record { way = way_raised R C offered s c r pick fair.way paid; rule = either (λ f. (g : ℕ) → New f g) c of_c of_other }
      where
        New : ℕ → ℕ → Type 0
        New f g =
            Rule R f g (place_in (raise_at R c s).places f) (place_in (raise_at R c s).places g) (closed_in s.closed g)
            (s.left - cost R s c)

        next : place_in (raise_at R c s).places c ≡ at c + 1
        next = raise_here R s c (let a = pick.below in let b = fair.way.fit in omega arith)

        of_c : (g : ℕ) → New c g
        of_c = either (New c) c (rw next (both _ _)) (λ g ne. rw (next, raise_else R s c g ne) (first g paid))

        of_other : (f : ℕ) → (f ≡ c → ⊥) → (g : ℕ) → New f g
        of_other f ne =
            either (New f) c (rw (next, raise_else R s c f ne) (second f _))
            (λ g me. rw (raise_else R s c f ne, raise_else R s c g me) (neither f g _))

  pub fair_round : (s : Run) → Fair R offered s → Fair R offered (round R s)
  fair_round = round_keeps R (Fair R offered) fair_raised fair_closed

  pub fair_ended : (s : Run) → Fair R offered s → Fair R offered (ended R s)
  fair_ended = ended_keeps R (Fair R offered) fair_raised fair_closed

  -- a state that keeps the rule keeps the promise
  pub exchanged : (s : Run) → Fair R offered s → Exchanged R s.places s.left
  exchanged s fair f g l m z h below = (fair.rule f g l m z h below).1

  pub end_exchanged : Exchanged R (ended R (started offered)).places (ended R (started offered)).left
  end_exchanged = exchanged (ended R (started offered)) (fair_ended (started offered) fair_start)
