-- What the end of the rounds is worth, carried from the places of the fields to the steps of the slots.
use mathlib.Core.Path.{◌≡◌, refl, sym, ap, ap₂, ◌∙◌, subst}
use mathlib.Core.Bool.{Bool, true, false, cond, ◌||◌}
use mathlib.Core.List.{List, [], ◌∷◌, map}
use Prim.Native.Nat.{ℕ, zero, suc, ◌+◌, ◌<◌}
use native.Mathlib.Nat.{le_trans}
use native.Mathlib.Omega.{arith}
use lib.Dec.{T, eqb, lit<, lit≤}
use lib.Ieee.{Float, binary64, fits, is_nan}
use lib.ListN.{length, get_or}
use borrow.Author.Tests.{eq-eqb}
use Rattle.tables.specs.Search.{one_of}
use Rattle.bitalloc.specs.Tables.{row_of}
use Rattle.layout.specs.declared.Layout.{Layout}
use Rattle.layout.specs.declared.AllocationField.{AllocationField}
use Rattle.layout.specs.Layout.{served, fields_of, field_in}
use Rattle.layout.proofs.FieldLaws.{few}
use Rattle.encoder_bit_demand.specs.Demand.{smr_at, smrs_of}
use Rattle.allocation_rounds.specs.declared.Run.{Run}
use Rattle.allocation_rounds.specs.Rounds.{Rules, price, place_in, started, ended}
use Rattle.allocation_rounds.specs.Promises.{charged, Counting, Spent, Exchanged}
use Rattle.allocation_rounds.proofs.Floats.{floats}
use Rattle.allocation_rounds.proofs.OnTheWay.{OnTheWay, end_way, end_over, end_spent}
use Rattle.allocation_rounds.proofs.Exchange.{end_exchanged}
use Rattle.allocation_run.specs.Entries.{Entry, entry_in, rules_of, entries_of}
use Rattle.allocation_run.specs.Steps.{steps_by, steps_of, run_of}
use Rattle.allocation_run.proofs.LaidLaws.{entries_count, entry_at}
use Rattle.allocation_run.proofs.RuleLaws.{Numbers, counting, rising, up_to_top}
use Rattle.allocation_run.proofs.RunLaws.{sound}
use Rattle.allocation_run.proofs.HeldLaws.{at_slot, slot_steps}
use Rattle.allocation_worth.specs.Worth.{places_from, NoNan, Worth}
use Rattle.allocation_worth.proofs.StandingLaws.{field_steps_lem, places_back}

-- ---- promises speak of the places only at each field

charged_same : (R : Rules) (p q : List ℕ) (n : ℕ) → ((f : ℕ) → f < n → place_in p f ≡ place_in q f) → charged R p n ≡ charged R q n
unfolding charged
charged_same R p q zero h = refl
charged_same R p q (suc n) h = ap₂ ◌+◌ (charged_same R p q n (λ f l. h f (omega arith))) (ap (R.charge n) (h n (omega arith)))

module _ (R : Rules) (p q : List ℕ) (left : ℕ) (same : (f : ℕ) → f < R.fields → place_in q f ≡ place_in p f) where
  spent_same : Spent R p left → Spent R q left
  spent_same s f l b =
      let e = same f l in
      subst (λ (k : ℕ). left < price R f k) (sym e) (s f l (subst (λ (k : ℕ). k < R.top f) e b))

  exchanged_same : Exchanged R p left → Exchanged R q left
  exchanged_same x f g l m z b = rw (same f l, same g m) (x f g l m (rw (same f l) at z) (rw (same g m) at b))

-- ---- the ratios of a field's channels are numbers where none that is read is a NaN

pub one_of_head : (c : ℕ) (cs : List ℕ) → T (one_of (c ∷ cs) c)
unfolding one_of
one_of_head c cs = rw (eq-eqb c c refl) tt

pub one_of_tail : (c ch : ℕ) (cs : List ℕ) → T (one_of cs ch) → T (one_of (c ∷ cs) ch)
unfolding one_of
one_of_tail c ch cs t = go (eqb ch c)
  where
    go : (b : Bool) → T (b || one_of cs ch)
    go true = tt
    go false = t

all_numbers : (smr : List (List Float)) (sb : ℕ) (cs : List ℕ) → ((ch : ℕ) → T (fits binary64 (smr_at smr ch sb)))
    → ((ch : ℕ) → T (one_of cs ch) → is_nan (smr_at smr ch sb) ≡ false) → Numbers (map (λ ch. smr_at smr ch sb) cs)
all_numbers smr sb [] g h = tt
all_numbers smr sb (c ∷ cs) g h = (h c (one_of_head c cs), g c, all_numbers smr sb cs g (λ ch t. h ch (one_of_tail c ch cs t)))

-- a field serves some channel
serves_some : (smr : List (List Float)) (x : AllocationField) → 0 < length (smrs_of smr x)
serves_some smr x = go x.both
  where
    go : (b : Bool) → 0 < length (map (λ ch. smr_at smr ch x.subband) (cond b (0 ∷ 1 ∷ []) (x.channel ∷ [])))
    go true = lit< tt
    go false = lit< tt

-- ---- the five parts

pub worth : (l : Layout) (smr : List (List Float)) (costs : List ℕ) (offered : ℕ) → ((ch sb : ℕ) → T (fits binary64 (smr_at smr ch sb)))
    → Worth l smr costs offered (steps_of l (run_of l smr costs offered).places) (run_of l smr costs offered).left
unfolding run_of rules_of
worth l smr costs offered fit = record {
  ends = refl;
  leaves = refl;
  over = end_over R C offered;
  accounted = ap (λ (k : ℕ). k + end.left) (charged_same R back places R.fields same) ∙ way.account;
  spent = spent_same R places back end.left same (end_spent R C offered);
  exchanged = λ none. exchanged_same R places back end.left same (end_exchanged floats R C (rising es (sound l smr costs) (numbers none)) offered);
  in_row = λ f h. ap (λ (p : ℕ). get_or (row_of l.table (field_in (fields_of l) f).subband) p 0) (places_back l places f h (in_field f h))
      ∙ sym (field_steps_lem l places f h);
  both = λ f ch h c. slot_steps l places f h ch c ∙ sym (field_steps_lem l places f h);
  elsewhere = λ ch sb c s e. at_slot l places ch sb c s ∙ ap (steps_by l.table places sb) e;
}
  where
    es : List Entry
    es = entries_of l smr costs

    R : Rules
    R = rules_of es

    C : Counting R
    C = counting es (sound l smr costs) (rw (entries_count l smr costs) (le_trans (few l) (lit≤ tt)))

    end : Run
    end = ended R (started offered)

    places : List ℕ
    places = end.places

    back : List ℕ
    back = places_from l (steps_of l places)

    way : OnTheWay R offered end
    way = end_way R C offered

    field : (f : ℕ) → f < length es → f < length (fields_of l)
    field f h = rw (entries_count l smr costs) at h

    in_field : (f : ℕ) → f < length (fields_of l) → place_in places f < length (row_of l.table (field_in (fields_of l) f).subband)
    in_field f h =
        let k : f < length es = rw (entries_count l smr costs) h in
        subst (λ (e : Entry). place_in places f < length e.row) (entry_at l smr costs f h)
        (up_to_top es (sound l smr costs) f (place_in places f) k (way.within f k))

    same : (f : ℕ) → f < R.fields → place_in back f ≡ place_in places f
    same f h = places_back l places f (field f h) (in_field f (field f h))

    numbers : NoNan (fields_of l) smr → (f : ℕ) → f < length es → (0 < length (entry_in es f).smr) × Numbers (entry_in es f).smr
    numbers none f h =
        let x = field_in (fields_of l) f in
        subst (λ (e : Entry). (0 < length e.smr) × Numbers e.smr) (sym (entry_at l smr costs f (field f h)))
        (serves_some smr x, all_numbers smr x.subband (served x) (λ ch. fit ch x.subband) (λ ch c. none f ch (field f h) c))
