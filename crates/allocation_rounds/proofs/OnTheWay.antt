-- What holds on the way from the start: charged and left make up what was offered, no place is above its top, and a closed field below its
-- top is too dear. Each is kept by a raise that is paid for and by a close that is too dear, so each holds at the end.
use mathlib.Core.Path.{◌≡◌, refl, sym, ap, ◌∙◌}
use mathlib.Core.Bool.{true, false, true≢false}
use mathlib.Core.List.{List}
use Prim.Native.Nat.{ℕ, zero, suc, ◌+◌, ◌≤◌, ◌<◌}
use native.Mathlib.Omega.{arith}
use lib.Ieee.{Float}
use lib.ListN.{length, replicate, length-set, get_or-replicate}
use Rattle.tables.specs.Sum.{sum_below}
use Rattle.allocation_rounds.specs.declared.Run.{Run}
use Rattle.allocation_rounds.specs.Rounds.{Rules, price, place_in, closed_in, close_at, round, ended, started}
use Rattle.allocation_rounds.specs.Promises.{charged, Counting, Over, Accounted, Spent}
use Rattle.allocation_rounds.proofs.Fields.{either, one_differs}
use Rattle.allocation_rounds.proofs.Scan.{PickedIn, picked_open, closed_below}
use Rattle.allocation_rounds.proofs.Ending.{cost, raise_at, raise_here, raise_else, close_else, over, round_keeps, ended_keeps}

-- ---- charges

charged_sum : (R : Rules) (places : List ℕ) (n : ℕ) → charged R places n ≡ sum_below n (λ f. R.charge f (place_in places f))
unfolding charged
charged_sum R places zero = refl
charged_sum R places (suc n) = ap (λ (k : ℕ). k + R.charge n (place_in places n)) (charged_sum R places n)

pub zeros : (m n : ℕ) → place_in (replicate m 0) n ≡ 0
zeros zero n = refl
zeros (suc m) zero = refl
zeros (suc m) (suc n) = zeros m n

charged_zeros : (R : Rules) (m n : ℕ) → ((f : ℕ) → R.charge f 0 ≡ 0) → charged R (replicate m 0) n ≡ 0
unfolding charged
charged_zeros R m zero h = refl
charged_zeros R m (suc n) h =
    let a = charged_zeros R m n h in
    let b : R.charge n (place_in (replicate m 0) n) ≡ 0 = ap (R.charge n) (zeros m n) ∙ h n in
    omega arith

-- ---- on the way

pub record OnTheWay (R : Rules) (offered : ℕ) (s : Run) : Type 0 where
  pub fit : R.fields ≤ length s.places
  pub account : Accounted R offered s.places s.left
  pub within : (f : ℕ) → f < R.fields → place_in s.places f ≤ R.top f
  pub dear : (f : ℕ) → f < R.fields → closed_in s.closed f ≡ true → place_in s.places f < R.top f → s.left < cost R s f

module _ (R : Rules) (C : Counting R) (offered : ℕ) where
  pub way_start : OnTheWay R offered (started offered)
  way_start = record {
    fit = C.few;
    account = let z = charged_zeros R 64 R.fields C.nothing in omega arith;
    within = λ f l. rw (zeros 64 f) (omega arith);
    dear = λ f l e. absurd (true≢false (sym e ∙ get_or-replicate 64 f false true (let h = C.few in omega arith)));
  }

  module _ (s : Run) (f : ℕ) (r : Float) (pick : PickedIn R s f r) (way : OnTheWay R offered s) where
    next : place_in (raise_at R f s).places f ≡ place_in s.places f + 1
    next = raise_here R s f (let a = pick.below in let b = way.fit in omega arith)

    paid_for : cost R s f ≤ s.left → Accounted R offered (raise_at R f s).places (raise_at R f s).left
    paid_for paid =
        let one =
        one_differs (λ k. R.charge k (place_in (raise_at R f s).places k)) (λ k. R.charge k (place_in s.places k)) f
        R.fields pick.below (λ k ne. ap (R.charge k) (raise_else R s f k ne)) in
        let here = ap (R.charge f) next in
        let then = charged_sum R (raise_at R f s).places R.fields in
        let now = charged_sum R s.places R.fields in
        let up = C.rising f (place_in s.places f) pick.below (picked_open R s f r pick).1 in
        let total = way.account in
        omega arith

    pub way_raised : cost R s f ≤ s.left → OnTheWay R offered (raise_at R f s)
    way_raised paid = record {
      fit = rw (length-set s.places f (place_in s.places f + 1)) way.fit;
      account = paid_for paid;
      within =
          either (λ k. k < R.fields → place_in (raise_at R f s).places k ≤ R.top k) f
          (λ l. rw next (let h = (picked_open R s f r pick).1 in omega arith)) (λ k ne l. rw (raise_else R s f k ne) (way.within k l));
      dear =
          either (λ k. k < R.fields → closed_in s.closed k ≡ true → place_in (raise_at R f s).places k < R.top k
          → (raise_at R f s).left < cost R (raise_at R f s) k) f
          (λ l e. absurd (true≢false (sym e ∙ (picked_open R s f r pick).0)))
          (λ k ne l e. rw (raise_else R s f k ne) (λ h. let d = way.dear k l e h in omega arith));
    }

    pub way_closed : s.left < cost R s f → OnTheWay R offered (close_at f s)
    way_closed dear = record {
      fit = way.fit;
      account = way.account;
      within = way.within;
      dear =
          either (λ k. k < R.fields → closed_in (close_at f s).closed k ≡ true → place_in s.places k < R.top k → s.left < cost R s k) f
          (λ l e h. dear) (λ k ne l e. way.dear k l (sym (close_else s f k ne) ∙ e));
    }

  pub way_round : (s : Run) → OnTheWay R offered s → OnTheWay R offered (round R s)
  way_round = round_keeps R (OnTheWay R offered) way_raised way_closed

  pub way_ended : (s : Run) → OnTheWay R offered s → OnTheWay R offered (ended R s)
  way_ended = ended_keeps R (OnTheWay R offered) way_raised way_closed

  -- where nobody waits, a field below its top is closed, and too dear
  pub spent : (s : Run) → OnTheWay R offered s → Over R s → Spent R s.places s.left
  spent s way done f l h = way.dear f l (closed_below R s.places s.closed f (done f l) h) h

  -- ---- the end of a run from the start

  pub end_way : OnTheWay R offered (ended R (started offered))
  end_way = way_ended (started offered) way_start

  pub end_over : Over R (ended R (started offered))
  end_over = over R (started offered) C.few

  pub end_spent : Spent R (ended R (started offered)).places (ended R (started offered)).left
  end_spent = spent (ended R (started offered)) end_way end_over

-- ---- where no first step fits what is offered, nothing is bought

module _ (R : Rules) (offered : ℕ) (dear : (f : ℕ) → f < R.fields → offered < price R f 0) where
  pub end_untouched : ((ended R (started offered)).places ≡ replicate 64 0) × ((ended R (started offered)).left ≡ offered)
  end_untouched =
      ended_keeps R (λ s. (s.places ≡ replicate 64 0) × (s.left ≡ offered))
      (λ s f r pick p paid.
      let here : place_in s.places f ≡ 0 = ap (λ (places : List ℕ). place_in places f) p.0 ∙ zeros 64 f in
      let left = p.1 in
      let d = dear f pick.below in
      let l : price R f 0 ≤ s.left = rw here at paid in
      absurd (omega arith))
      (λ s f r pick p l. p) (started offered) (refl, refl)
