-- What is kept beside the state finds the candidate of the state, and stays true of it.
use mathlib.Core.Path.{◌≡◌, refl, sym, ap, ◌∙◌}
use mathlib.Core.Bool.{Bool, true, false, cond}
use mathlib.Core.List.{List}
use Prim.Native.Nat.{ℕ, zero, suc, ◌+◌, min, ◌<◌}
use native.Mathlib.Nat.{lt-suc_self, lt_trans}
use native.Mathlib.Decide.{ℕ_discrete}
use lib.Dec.{leb}
use lib.Ieee.{Float, nan}
use lib.ListN.{get_or}
use lib.Seq.{get_or-set_other}
use Rattle.std.proofs.Common.{Option}
use Rattle.allocation_rounds.specs.declared.Candidate.{Candidate}
use Rattle.allocation_rounds.specs.declared.Run.{Run}
use Rattle.allocation_rounds.specs.declared.Tables.{Tables}
use Rattle.allocation_rounds.specs.Rounds.{Rules, place_in, closed_in, waits, best, taken_by, raised_by, close_at}
use Rattle.allocation_rounds.specs.Lent.{lent, rules_in}
use Rattle.allocation_rounds.specs.Answers.{BestIs}
use Rattle.allocation_rounds.specs.Watch.{scanned, WatchedAt, Watched, Rewatched}
use Rattle.allocation_rounds.proofs.Answers.{best_is}

-- ---- all of them

-- a field that was not touched is still watched, in a state that agrees with the old one there
module _ (R : Rules) (places places' : List ℕ) (closed closed' waiting waiting' : List Bool) (present present' : List Float) (g : ℕ)
    (at : place_in places' g ≡ place_in places g) (shut : closed_in closed' g ≡ closed_in closed g)
    (flag : get_or waiting' g false ≡ get_or waiting g false) (mnr : get_or present' g nan ≡ get_or present g nan) where
  same_waits : waits R places' closed' g ≡ waits R places closed g
  same_waits = rw (at, shut)

  still : WatchedAt R places closed waiting present g → WatchedAt R places' closed' waiting' present' g
  still w = record {
    flag = flag ∙ w.flag ∙ sym same_waits;
    mnr = λ t. mnr ∙ w.mnr (sym same_waits ∙ t) ∙ ap (R.mnr g) (sym at);
  }

-- a field's turn changes nothing of the others
taken_else : (f cost : ℕ) (s : Run) (g : ℕ) → (g ≡ f → ⊥)
    → (place_in (taken_by f cost s).places g ≡ place_in s.places g) × (closed_in (taken_by f cost s).closed g ≡ closed_in s.closed g)
taken_else f cost s g ne = go (leb cost s.left)
  where
    go : (b : Bool) → (place_in (cond b (raised_by f cost s) (close_at f s)).places g ≡ place_in s.places g)
        × (closed_in (cond b (raised_by f cost s) (close_at f s)).closed g ≡ closed_in s.closed g)
    go true = (get_or-set_other s.places f g (place_in s.places f + 1) 0 ne, refl)
    go false = (refl, get_or-set_other s.closed f g true true ne)

pub taken_watched : (R : Rules) (s r : Run) (f cost n : ℕ) (waiting waiting' : List Bool) (present present' : List Float) → r ≡ taken_by f cost s
    → Watched R s.places s.closed n waiting present → Rewatched R r.places r.closed f waiting present waiting' present'
    → Watched R r.places r.closed n waiting' present'
taken_watched R s r f cost n waiting waiting' present present' e all w = record {
  each = λ g h. go g h (ℕ_discrete g f);
}
  where
    go : (g : ℕ) → g < n → Dec (g ≡ f) → WatchedAt R r.places r.closed waiting' present' g
    go g h (yes i) = rw i w.here
    go g h (no ne) =
        let o = taken_else f cost s g ne in
        still R s.places r.places s.closed r.closed waiting waiting' present present' g
        (ap (λ (r : Run). place_in r.places g) e ∙ o.0) (ap (λ (r : Run). closed_in r.closed g) e ∙ o.1)
        (w.else_flag g ne) (w.else_mnr g ne) (all.each g h)

-- ---- the candidate of the state

module _ (t : Tables) (s : Run) (waiting : List Bool) (present : List Float) where
  scan_is : (charges : List ℕ) (n : ℕ) → ((f : ℕ) → f < n → WatchedAt (rules_in t) s.places s.closed waiting present f)
      → scanned waiting present n ≡ best (lent t.fields t.tops t.mnrs charges) s.places s.closed n
  scan_is charges zero all = refl
  scan_is charges (suc n) all =
      go (waits (rules_in t) s.places s.closed n) refl (scan_is charges n (λ f h. all f (lt_trans h (lt-suc_self n))))
    where
      at : WatchedAt (rules_in t) s.places s.closed waiting present n
      at = all n (lt-suc_self n)

      go : (b : Bool) → waits (rules_in t) s.places s.closed n ≡ b → scanned waiting present n ≡ best (lent t.fields t.tops t.mnrs charges) s.places s.closed n
          → scanned waiting present (suc n) ≡ best (lent t.fields t.tops t.mnrs charges) s.places s.closed (suc n)
      go true e ih = rw (at.flag ∙ e, e, at.mnr e, ih)
      go false e ih = rw (at.flag ∙ e, e) ih

  pub scan_best : (n : ℕ) (r : Option Candidate) → n ≡ min t.fields 64 → Watched (rules_in t) s.places s.closed n waiting present → r ≡ scanned waiting present n
      → BestIs s.places s.closed t.fields t.tops t.mnrs r
  scan_best n r e w q = best_is s.places s.closed t.fields t.tops t.mnrs n r e (λ charges. q ∙ scan_is charges n w.each)
