-- The fields and the slots of a layout by their number: what the code computes where the definitions have a list.
use Rattle.std.specs.Prelude.{None, Some}
use mathlib.Core.Path.{◌≡◌, refl, sym, ap, ◌∙◌, subst}
use mathlib.Core.Bool.{Bool, true, false, cond, and-false, ◌||◌}
use mathlib.Core.Logic.{◌⊎◌, inl, inr, ⊎_elim}
use mathlib.Core.List.{[], ◌∷◌}
use Prim.Native.Nat.{ℕ, zero, suc, ◌+◌, ◌-◌, ◌*◌, ◌/◌, ◌%◌, min, ◌≤◌, ◌<◌}
use native.Mathlib.Nat.{not-suc-le-zero, lt_trans}
use native.Mathlib.Decide.{dec_lt, ℕ_discrete}
use native.Mathlib.Omega.{arith}
use lib.Dec.{T, eqb, ltb, eqb→eq, lit<}
use lib.ListN.{length, length-append}
use borrow.Author.Tests.{lt-ltb, le-ltb, eq-eqb, ne_eqb}
use Rattle.tables.specs.Search.{place, one_of}
use Rattle.tables.proofs.Listed.{at_append}
use Rattle.tables.proofs.Search.{place_found, place_missing}
use Rattle.layout.specs.declared.Layout.{Layout}
use Rattle.layout.specs.declared.AllocationField.{AllocationField}
use Rattle.layout.specs.Layout.{own, shared, served, fields_at, fields_below, field_in, serves}

-- ---- by number

-- the field of a number, with one channel and with two
abbrev pub numbered : Bool → ℕ → ℕ → AllocationField
numbered true bound f = own f 0
numbered false bound f = cond (ltb (f / 2) bound) (own (f / 2) (f % 2)) (shared (f - bound))

-- how many fields the subbands below n have
abbrev pub count : Bool → ℕ → ℕ → ℕ
count true bound n = n
count false bound n = n + min n bound

-- the number of the field that serves a slot
abbrev pub serving : Bool → ℕ → ℕ → ℕ → ℕ
serving true bound ch sb = sb
serving false bound ch sb = cond (ltb sb bound) (2 * sb + ch) (sb + bound)

-- a subband's fields with one channel, and with two below the bound and above it
one_at : (l : Layout) (n : ℕ) → eqb l.channels 1 ≡ true → fields_at l n ≡ own n 0 ∷ []
one_at l n e = rw e

two_below : (l : Layout) (n : ℕ) → eqb l.channels 1 ≡ false → n < l.bound → fields_at l n ≡ own n 0 ∷ own n 1 ∷ []
two_below l n e h = rw (e, lt-ltb n l.bound h)

two_above : (l : Layout) (n : ℕ) → eqb l.channels 1 ≡ false → l.bound ≤ n → fields_at l n ≡ shared n ∷ []
two_above l n e h = rw (e, le-ltb n l.bound h)

-- how many, and which
pub record Numbered (one : Bool) (l : Layout) (n : ℕ) : Type 0 where
  pub many : length (fields_below l n) ≡ count one l.bound n
  pub which : (f : ℕ) → f < count one l.bound n → field_in (fields_below l n) f ≡ numbered one l.bound f

one_numbered : (l : Layout) → eqb l.channels 1 ≡ true → (n : ℕ) → Numbered true l n
unfolding fields_below
one_numbered l e zero = record { many = refl; which = λ f h. absurd (not-suc-le-zero h) }
one_numbered l e (suc n) =
    let ih = one_numbered l e n in
    let xs = fields_below l n in
    let q = one_at l n e in
    record {
      many = rw q (length-append xs (own n 0 ∷ []) ∙ (let m = ih.many in omega arith));
      which = λ f h. rw q (at_append (own 0 0) xs (own n 0 ∷ []) f n (own f 0) ih.many (ih.which f) (last f) (omega arith));
    }
  where
    last : (f i : ℕ) → f ≡ n + i → i < 1 → field_in (own n 0 ∷ []) i ≡ own f 0
    last f zero p h = ap (λ (m : ℕ). own m 0) (omega arith)
    last f (suc i) p h = absurd (omega arith)

two_numbered : (l : Layout) → eqb l.channels 1 ≡ false → (n : ℕ) → Numbered false l n
unfolding fields_below
two_numbered l e zero =
    record { many = omega arith; which = λ f h. absurd (let z : f < 0 + min 0 l.bound = h in omega arith) }
two_numbered l e (suc n) = go (two_numbered l e n) (dec_lt n bound)
  where
    bound : ℕ
    bound = l.bound

    low : (f i : ℕ) → n < bound → f ≡ n + min n bound + i → i < 2 → field_in (own n 0 ∷ own n 1 ∷ []) i ≡ numbered false bound f
    low f zero h p g =
        let q : f / 2 ≡ n = omega arith in
        let r : f % 2 ≡ 0 = omega arith in
        rw (q, r, lt-ltb n bound h)
    low f (suc zero) h p g =
        let q : f / 2 ≡ n = omega arith in
        let r : f % 2 ≡ 1 = omega arith in
        rw (q, r, lt-ltb n bound h)
    low f (suc (suc i)) h p g = absurd (omega arith)

    high : (f i : ℕ) → bound ≤ n → f ≡ n + min n bound + i → i < 1 → field_in (shared n ∷ []) i ≡ numbered false bound f
    high f zero h p g =
        let s : bound ≤ f / 2 = omega arith in
        let q : f - bound ≡ n = omega arith in
        rw (le-ltb (f / 2) bound s, q)
    high f (suc i) h p g = absurd (omega arith)

    go : Numbered false l n → Dec (n < bound) → Numbered false l (suc n)
    go ih (yes h) =
        let q = two_below l n e h in
        record {
          many = rw q (length-append (fields_below l n) (own n 0 ∷ own n 1 ∷ []) ∙ (let m = ih.many in omega arith));
          which = λ f g. rw q (at_append (own 0 0) (fields_below l n) (own n 0 ∷ own n 1 ∷ []) f (n + min n bound) (numbered false bound f) ih.many (ih.which f)
              (λ i p k. low f i h p k) (let m : f < suc n + min (suc n) bound = g in omega arith));
        }
    go ih (no k) =
        let h : bound ≤ n = omega arith in
        let q = two_above l n e h in
        record {
          many = rw q (length-append (fields_below l n) (shared n ∷ []) ∙ (let m = ih.many in omega arith));
          which = λ f g. rw q (at_append (own 0 0) (fields_below l n) (shared n ∷ []) f (n + min n bound) (numbered false bound f) ih.many (ih.which f)
              (λ i p k. high f i h p k) (let m : f < suc n + min (suc n) bound = g in omega arith));
        }

pub fields_numbered : (l : Layout) (n : ℕ) → Numbered (eqb l.channels 1) l n
fields_numbered l n = go (eqb l.channels 1) refl
  where
    go : (one : Bool) → eqb l.channels 1 ≡ one → Numbered one l n
    go true e = one_numbered l e n
    go false e = two_numbered l e n

-- the subband of a field lies below the limit, and its first channel is 0 or 1
pub numbered_below : (one : Bool) (bound n f : ℕ) → f < count one bound n → (numbered one bound f).subband < n
numbered_below true bound n f h = h
numbered_below false bound n f h = go (dec_lt (f / 2) bound)
  where
    m : f < n + min n bound
    m = h

    go : Dec (f / 2 < bound) → (numbered false bound f).subband < n
    go (yes l) = rw (lt-ltb (f / 2) bound l) (omega arith)
    go (no l) = rw (le-ltb (f / 2) bound (omega arith)) (omega arith)

pub numbered_channel : (one : Bool) (bound f : ℕ) → (numbered one bound f).channel < 2
numbered_channel true bound f = lit< tt
numbered_channel false bound f = go (ltb (f / 2) bound)
  where
    go : (v : Bool) → (cond v (own (f / 2) (f % 2)) (shared (f - bound))).channel < 2
    go true = omega arith
    go false = lit< tt

pub count_small : (one : Bool) (bound n : ℕ) → n ≤ 30 → count one bound n ≤ 60
count_small true bound n h = omega arith
count_small false bound n h = let m : n + min n bound ≤ 60 = omega arith in m

-- ---- the field that serves a slot

own_serves : (ch sb : ℕ) → serves ch sb (own sb ch) ≡ true
unfolding one_of
own_serves ch sb = rw (eq-eqb sb sb refl, eq-eqb ch ch refl)

other_subband : (ch sb : ℕ) (x : AllocationField) → (x.subband ≡ sb → ⊥) → serves ch sb x ≡ false
other_subband ch sb x h = rw (ne_eqb x.subband sb h)

other_channel : (ch sb sb' c : ℕ) → (ch ≡ c → ⊥) → serves ch sb (own sb' c) ≡ false
unfolding one_of
other_channel ch sb sb' c h = rw (ne_eqb ch c h) (and-false (eqb sb' sb))

shared_serves : (ch sb : ℕ) → ch < 2 → serves ch sb (shared sb) ≡ true
unfolding one_of
shared_serves zero sb h = rw (eq-eqb sb sb refl)
shared_serves (suc zero) sb h = rw (eq-eqb sb sb refl)
shared_serves (suc (suc ch)) sb h = absurd (omega arith)

shared_past : (ch sb sb' : ℕ) → 2 ≤ ch → serves ch sb (shared sb') ≡ false
unfolding one_of
shared_past ch sb sb' h =
    rw (ne_eqb ch 0 (λ e. absurd (omega arith)), ne_eqb ch 1 (λ e. absurd (omega arith))) (and-false (eqb sb' sb))

-- of the fields by number, exactly the serving one serves the slot
two_served : (bound ch sb : ℕ) → ch < 2 → serves ch sb (numbered false bound (serving false bound ch sb)) ≡ true
two_served bound ch sb h = go (dec_lt sb bound)
  where
    go : Dec (sb < bound) → serves ch sb (numbered false bound (serving false bound ch sb)) ≡ true
    go (yes l) =
        let q : (2 * sb + ch) / 2 ≡ sb = omega arith in
        let r : (2 * sb + ch) % 2 ≡ ch = omega arith in
        rw (lt-ltb sb bound l, q, lt-ltb sb bound l, r) (own_serves ch sb)
    go (no l) =
        let s : bound ≤ (sb + bound) / 2 = omega arith in
        let q : sb + bound - bound ≡ sb = omega arith in
        rw (le-ltb sb bound (omega arith), le-ltb ((sb + bound) / 2) bound s, q) (shared_serves ch sb h)

two_before : (bound ch sb k : ℕ) → ch < 2 → k < serving false bound ch sb → serves ch sb (numbered false bound k) ≡ false
two_before bound ch sb k h m = go (dec_lt sb bound) (dec_lt (k / 2) bound)
  where
    low : sb < bound → k < 2 * sb + ch
    low l = subst (λ (b : Bool). k < cond b (2 * sb + ch) (sb + bound)) (lt-ltb sb bound l) m

    high : bound ≤ sb → k < sb + bound
    high l = subst (λ (b : Bool). k < cond b (2 * sb + ch) (sb + bound)) (le-ltb sb bound l) m

    apart : k < 2 * sb + ch → (k / 2 ≡ sb) → ch ≡ k % 2 → ⊥
    apart l e q = omega arith

    either : k < 2 * sb + ch → (ch ≡ k % 2 → ⊥) ⊎ (k / 2 ≡ sb → ⊥)
    either l = pick (ℕ_discrete ch (k % 2))
      where
        pick : Dec (ch ≡ k % 2) → (ch ≡ k % 2 → ⊥) ⊎ (k / 2 ≡ sb → ⊥)
        pick (yes e) = inr (λ q. apart l q e)
        pick (no e) = inl e

    go : Dec (sb < bound) → Dec (k / 2 < bound) → serves ch sb (numbered false bound k) ≡ false
    go (yes l) (yes t) = rw (lt-ltb (k / 2) bound t) (⊎_elim (λ q. other_channel ch sb (k / 2) (k % 2) q) (λ q. other_subband ch sb (own (k / 2) (k % 2)) q) (either (low l)))
    go (yes l) (no t) = absurd (let g = low l in omega arith)
    go (no l) (yes t) = rw (lt-ltb (k / 2) bound t) (other_subband ch sb (own (k / 2) (k % 2)) (λ e. let u : k / 2 ≡ sb = e in omega arith))
    go (no l) (no t) =
        rw (le-ltb (k / 2) bound (omega arith))
        (other_subband ch sb (shared (k - bound)) (λ e. let u : k - bound ≡ sb = e in let g = high (omega arith) in omega arith))

-- the slots that the layout carries, and the others
unfoldable pub Carried : Bool → ℕ → ℕ → ℕ → Type 0
Carried true n ch sb = (ch ≡ 0) × (sb < n)
Carried false n ch sb = (ch < 2) × (sb < n)

unfoldable pub Outside : Bool → ℕ → ℕ → ℕ → Type 0
Outside true n ch sb = (1 ≤ ch) ⊎ (n ≤ sb)
Outside false n ch sb = (2 ≤ ch) ⊎ (n ≤ sb)

pub by_number : (one : Bool) (l : Layout) (n ch sb : ℕ) → Numbered one l n → Carried one n ch sb
    → place (serves ch sb) (fields_below l n) ≡ Some (serving one l.bound ch sb)
unfolding Carried
by_number true l n ch sb ns (z, h) =
    place_found (serves ch sb) (fields_below l n) sb _ (rw ns.many h)
    (λ k m. ap (serves ch sb) (ns.which k (omega arith)) ∙ other_subband ch sb (own k 0) (λ e. let u : k ≡ sb = e in omega arith))
    (ap (serves ch sb) (ns.which sb h) ∙ rw z (own_serves 0 sb))
by_number false l n ch sb ns (c, h) =
    place_found (serves ch sb) (fields_below l n) (serving false bound ch sb) _ (rw ns.many within)
    (λ k m. ap (serves ch sb) (ns.which k (lt_trans m within)) ∙ two_before bound ch sb k c m)
    (ap (serves ch sb) (ns.which (serving false bound ch sb) within) ∙ two_served bound ch sb c)
  where
    bound : ℕ
    bound = l.bound

    go : Dec (sb < bound) → serving false bound ch sb < n + min n bound
    go (yes t) = rw (lt-ltb sb bound t) (omega arith)
    go (no t) = rw (le-ltb sb bound (omega arith)) (omega arith)

    within : serving false bound ch sb < n + min n bound
    within = go (dec_lt sb bound)

pub by_none : (one : Bool) (l : Layout) (n ch sb : ℕ) → Numbered one l n → Outside one n ch sb → place (serves ch sb) (fields_below l n) ≡ None
unfolding Outside
by_none true l n ch sb ns o =
    place_missing (serves ch sb) (fields_below l n) _
    (λ k h. let m : k < n = rw ns.many at h in
    ap (serves ch sb) (ns.which k m)
    ∙ ⊎_elim (λ h. other_channel ch sb k 0 (λ e. absurd (omega arith))) (λ h. other_subband ch sb (own k 0) (λ e. let u : k ≡ sb = e in omega arith)) o)
by_none false l n ch sb ns o =
    place_missing (serves ch sb) (fields_below l n) _
    (λ k h. let m : k < n + min n bound = rw ns.many at h in ap (serves ch sb) (ns.which k m) ∙ go k m (dec_lt (k / 2) bound))
  where
    bound : ℕ
    bound = l.bound

    go : (k : ℕ) → k < n + min n bound → Dec (k / 2 < bound) → serves ch sb (numbered false bound k) ≡ false
    go k m (yes t) =
        rw (lt-ltb (k / 2) bound t)
        (⊎_elim (λ h. other_channel ch sb (k / 2) (k % 2) (λ e. absurd (omega arith)))
        (λ h. other_subband ch sb (own (k / 2) (k % 2)) (λ e. let u : k / 2 ≡ sb = e in omega arith)) o)
    go k m (no t) =
        rw (le-ltb (k / 2) bound (omega arith))
        (⊎_elim (λ h. shared_past ch sb (k - bound) h) (λ h. other_subband ch sb (shared (k - bound)) (λ e. let u : k - bound ≡ sb = e in omega arith)) o)

-- ---- a field serves its slots

one_of_single : (c ch : ℕ) → T (one_of (c ∷ []) ch) → ch ≡ c
unfolding one_of
one_of_single c ch t = eqb→eq ch c (go (eqb ch c) t)
  where
    go : (b : Bool) → T (b || false) → T b
    go true t = tt
    go false t = t

one_of_pair : (ch : ℕ) → T (one_of (0 ∷ 1 ∷ []) ch) → ch < 2
unfolding one_of
one_of_pair zero t = omega arith
one_of_pair (suc zero) t = omega arith
one_of_pair (suc (suc ch)) t = absurd (go t)
  where
    go : T (eqb (suc (suc ch)) 0 || (eqb (suc (suc ch)) 1 || false)) → ⊥
    go t = rw (ne_eqb (suc (suc ch)) 0 (λ e. absurd (omega arith)), ne_eqb (suc (suc ch)) 1 (λ e. absurd (omega arith))) at t

pub served_back : (one : Bool) (bound n f ch : ℕ) → f < count one bound n → T (one_of (served (numbered one bound f)) ch)
    → Carried one n ch (numbered one bound f).subband × (serving one bound ch (numbered one bound f).subband ≡ f) × (ch < 2)
unfolding Carried
served_back true bound n f ch h t = let e = one_of_single 0 ch t in ((e, h), refl, omega arith)
served_back false bound n f ch h t = go (dec_lt (f / 2) bound)
  where
    m : f < n + min n bound
    m = h

    Answer : AllocationField → Type 0
    Answer x = ((ch < 2) × (x.subband < n)) × (serving false bound ch x.subband ≡ f) × (ch < 2)

    low : f / 2 < bound → ch ≡ f % 2 → Answer (own (f / 2) (f % 2))
    low l e = ((omega arith, omega arith), rw (lt-ltb (f / 2) bound l) (omega arith), omega arith)

    high : bound ≤ f / 2 → ch < 2 → Answer (shared (f - bound))
    high l c =
        let s : bound ≤ f - bound = omega arith in
        ((c, omega arith), rw (le-ltb (f - bound) bound s) (omega arith), c)

    go : Dec (f / 2 < bound) → Answer (numbered false bound f)
    go (yes l) = subst (λ (v : Bool). Answer (cond v (own (f / 2) (f % 2)) (shared (f - bound)))) (sym (lt-ltb (f / 2) bound l))
        (low l (one_of_single (f % 2) ch (subst (λ (v : Bool). T (one_of (served (cond v (own (f / 2) (f % 2)) (shared (f - bound)))) ch)) (lt-ltb (f / 2) bound l) t)))
    go (no l) = let k : bound ≤ f / 2 = omega arith in
        subst (λ (v : Bool). Answer (cond v (own (f / 2) (f % 2)) (shared (f - bound)))) (sym (le-ltb (f / 2) bound k))
        (high k (one_of_pair ch (subst (λ (v : Bool). T (one_of (served (cond v (own (f / 2) (f % 2)) (shared (f - bound)))) ch)) (le-ltb (f / 2) bound k) t)))

-- its first channel is one of its channels
pub first_served : (one : Bool) (bound f : ℕ) → T (one_of (served (numbered one bound f)) (numbered one bound f).channel)
unfolding one_of
first_served true bound f = tt
first_served false bound f = go (ltb (f / 2) bound)
  where
    go : (v : Bool) → T (one_of (served (cond v (own (f / 2) (f % 2)) (shared (f - bound)))) (cond v (own (f / 2) (f % 2)) (shared (f - bound))).channel)
    go true = rw (eq-eqb (f % 2) (f % 2) refl) tt
    go false = tt
