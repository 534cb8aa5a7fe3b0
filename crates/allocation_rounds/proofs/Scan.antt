-- What a scan over the first n fields says: the candidate is a field that waits, at its place's ratio; without one nobody waits; and where no
-- ratio is a NaN, the candidate's ratio is at most that of each field that waits.
use mathlib.Core.Path.{◌≡◌, refl, sym, ap, ◌∙◌, subst}
use mathlib.Core.Bool.{Bool, true, false, not, cond, ◌&&◌, true≢false, false≢true}
use mathlib.Core.List.{List}
use Prim.Native.Nat.{ℕ, zero, suc, ◌<◌}
use native.Mathlib.Nat.{not-suc-le-zero}
use native.Mathlib.Omega.{arith}
use borrow.Author.Tests.{ltb-true, lt-ltb}
use lib.Dec.{T, ltb}
use lib.Ieee.{Float, le, is_nan}
use Rattle.allocation_rounds.specs.declared.Candidate.{Candidate}
use Rattle.std.proofs.Common.{Option, Some, None}
use Rattle.allocation_rounds.specs.declared.Run.{Run}
use Rattle.allocation_rounds.specs.Rounds.{Rules, place_in, closed_in, waits, consider, best, candidate}
use Rattle.allocation_rounds.specs.Promises.{Rising}
use Rattle.allocation_rounds.proofs.Fields.{up_to}
use Rattle.allocation_rounds.proofs.Order.{Order, reflexive}

-- a field that waits is open, and below its top place
pub open_below : (R : Rules) (places : List ℕ) (closed : List Bool) (f : ℕ) → waits R places closed f ≡ true
    → (closed_in closed f ≡ false) × (place_in places f < R.top f)
open_below R places closed f e = go (closed_in closed f) refl (ltb (place_in places f) (R.top f)) refl e
  where
    go : (b : Bool) → closed_in closed f ≡ b → (l : Bool) → ltb (place_in places f) (R.top f) ≡ l → not b && l ≡ true
        → (closed_in closed f ≡ false) × (place_in places f < R.top f)
    go false p true q e = (p, ltb-true _ _ q)
    go false p false q e = absurd (false≢true e)
    go true p l q e = absurd (false≢true e)

-- a field below its top place that does not wait is closed
pub closed_below : (R : Rules) (places : List ℕ) (closed : List Bool) (f : ℕ) → waits R places closed f ≡ false → place_in places f < R.top f
    → closed_in closed f ≡ true
closed_below R places closed f e h = go (closed_in closed f) refl
  where
    go : (b : Bool) → closed_in closed f ≡ b → b ≡ true
    go true p = refl
    go false p = sym (rw (p, lt-ltb _ _ h) at e)

-- field f waits among the first n, and r is the ratio at its place: the least of the ratios of those that wait, if none of them is a NaN
pub record Picked (R : Rules) (places : List ℕ) (closed : List Bool) (n f : ℕ) (r : Float) : Type 0 where
  pub below : f < n
  pub waiting : waits R places closed f ≡ true
  pub at : r ≡ R.mnr f (place_in places f)
  pub least : Order → ((g : ℕ) → g < n → waits R places closed g ≡ true → is_nan (R.mnr g (place_in places g)) ≡ false)
      → (g : ℕ) → g < n → waits R places closed g ≡ true → T (le r (R.mnr g (place_in places g)))

module _ (R : Rules) (places : List ℕ) (closed : List Bool) where
  abbrev mnr_of : ℕ → Float
  mnr_of f = R.mnr f (place_in places f)

  -- what a scan of the first n fields that has come to a candidate says
  abbrev Scanned : ℕ → Option Candidate → Type 0
  Scanned n None = (f : ℕ) → f < n → waits R places closed f ≡ false
  Scanned n (Some c) = Picked R places closed n c.field c.mnr

  abbrev Leasts : ℕ → Float → Type 0
  Leasts n r = (g : ℕ) → g < n → waits R places closed g ≡ true → T (le r (mnr_of g))

  fewer : (n : ℕ) → ((g : ℕ) → g < suc n → waits R places closed g ≡ true → is_nan (mnr_of g) ≡ false)
      → (g : ℕ) → g < n → waits R places closed g ≡ true → is_nan (mnr_of g) ≡ false
  fewer n num g l = num g (omega arith)

  one_more : (n : ℕ) (r : Float) → Leasts n r → (waits R places closed n ≡ true → T (le r (mnr_of n))) → Leasts (suc n) r
  one_more n r = up_to (λ g. waits R places closed g ≡ true → T (le r (mnr_of g))) n

  -- a field that does not wait is passed over
  passed : (n : ℕ) (c : Option Candidate) → waits R places closed n ≡ false → Scanned n c → Scanned (suc n) c
  passed n None e h = up_to (λ f. waits R places closed f ≡ false) n h e
  passed n (Some c) e h = record {
    below = let l = h.below in omega arith;
    waiting = h.waiting;
    at = h.at;
    least = λ O num. one_more n c.mnr (h.least O (fewer n num)) (λ q. absurd (true≢false (sym q ∙ e)));
  }

  -- a field that waits is considered
  met : (n : ℕ) (c : Option Candidate) → waits R places closed n ≡ true → Scanned n c → Scanned (suc n) (consider c n (mnr_of n))
  met n None e h = record {
    below = omega arith;
    waiting = e;
    at = refl;
    least = λ O num. one_more n (mnr_of n) (λ g l q. absurd (true≢false (sym q ∙ h g l))) (λ q. reflexive O (mnr_of n) (num n (omega arith) e));
  }
  met n (Some c) e h = go (le c.mnr (mnr_of n)) refl
    where
      go : (b : Bool) → le c.mnr (mnr_of n) ≡ b → Scanned (suc n) (cond b (Some c) (Some (record { field = n; mnr = mnr_of n })))
      go true p = record {
        below = let l = h.below in omega arith;
        waiting = h.waiting;
        at = h.at;
        least = λ O num. one_more n c.mnr (h.least O (fewer n num)) (λ q. subst T (sym p) tt);
      }
      go false p = record {
        below = omega arith;
        waiting = e;
        at = refl;
        least = λ O num.
            let a = num n (omega arith) e in
            let b : is_nan c.mnr ≡ false = ap is_nan h.at ∙ fewer n num c.field h.below h.waiting in
            one_more n (mnr_of n)
            (λ g l q. O.transitive (mnr_of n) c.mnr (mnr_of g) a b (fewer n num g l q) (O.total c.mnr (mnr_of n) b a p) (h.least O (fewer n num) g l q))
            (λ q. reflexive O (mnr_of n) a);
      }

  scanned : (n : ℕ) → Scanned n (best R places closed n)
  scanned zero = λ f l. absurd (not-suc-le-zero l)
  scanned (suc n) = go (scanned n) (waits R places closed n) refl
    where
      go : Scanned n (best R places closed n) → (w : Bool) → waits R places closed n ≡ w
          → Scanned (suc n) (cond w (consider (best R places closed n) n (mnr_of n)) (best R places closed n))
      go h true e = met n (best R places closed n) e h
      go h false e = passed n (best R places closed n) e h

  pub picked : (n : ℕ) (c : Candidate) → best R places closed n ≡ Some c → Picked R places closed n c.field c.mnr
  picked n c e = subst (Scanned n) e (scanned n)

  pub nobody : (n : ℕ) → best R places closed n ≡ None → (f : ℕ) → f < n → waits R places closed f ≡ false
  nobody n e = subst (Scanned n) e (scanned n)

-- ---- the candidate of a state

abbrev pub PickedIn : Rules → Run → ℕ → Float → Type 0
PickedIn R s f r = Picked R s.places s.closed R.fields f r

pub candidate_is : (R : Rules) (s : Run) (c : Candidate) → candidate R s ≡ Some c → PickedIn R s c.field c.mnr
candidate_is R s c e = picked R s.places s.closed R.fields c e

-- it is open, and below its top place
pub picked_open : (R : Rules) (s : Run) (f : ℕ) (r : Float) → PickedIn R s f r
    → (closed_in s.closed f ≡ false) × (place_in s.places f < R.top f)
picked_open R s f r pick = open_below R s.places s.closed f pick.waiting

-- where no ratio is a NaN, its ratio is the least of those that wait
pub picked_least : Order → (R : Rules) → Rising R → (s : Run) (f : ℕ) (r : Float) → PickedIn R s f r
    → (g : ℕ) → g < R.fields → waits R s.places s.closed g ≡ true → T (le r (R.mnr g (place_in s.places g)))
picked_least O R U s f r pick =
    pick.least O (λ g l w. U.number g (place_in s.places g) l (let h = (open_below R s.places s.closed g w).1 in omega arith))
