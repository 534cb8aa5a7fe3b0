-- The search for the last multiplier that covers; and what the index of a granule is worth.
use mathlib.Core.Path.{◌≡◌, refl, sym, ap, ap₂, ◌∙◌, subst}
use mathlib.Core.Bool.{Bool, true, false}
use mathlib.Core.Logic.{◌⊎◌, inl, inr, ⊎_elim}
use mathlib.Core.List.{List, []}
use Prim.Native.Nat.{ℕ, zero, suc, ◌+◌, ◌-◌, ◌*◌, ◌≤◌, ◌<◌}
use native.Mathlib.Nat.{le_of_suc-le-suc, not-suc-le-zero, eq-or-lt_of_le, le_trans, le-suc, lt-suc_self, le_of_lt}
use native.Mathlib.Numerals.{add-one}
use native.Mathlib.Omega.{arith}
use lib.Dec.{T, lit<}
use lib.IntN.{pos}
use lib.Ieee.{Float, nan, fin, le, lt, is_nan}
use lib.Ieee.Bits.{is_true}
use Rattle.std.proofs.Common.{zero-le}
use Rattle.std.specs.List.Sorted.{IsPartitionedBy, IsPartitionPoint}
use Rattle.std.proofs.lemmas.List.{get_or_default, get_or-take, get_or-drop, length-take, length-drop}
use Rattle.std.specs.List.{slice_range}
use lib.ListN.{length, get_or, drop}
use Rattle.tables.specs.Search.{last_place}
use Rattle.tables.specs.Scalefactors.{scalefactors}
use borrow.Author.Tests.{lt-ltb, le-ltb}
use Rattle.tables.proofs.Rule.{all_below, below}
use Rattle.tables.proofs.Search.{last_found, last_missing, last_told, Told}
use Rattle.ieee_order.specs.Order.{abs_of, max_of}
use Rattle.tables.proofs.Descent.{descends}
use Rattle.ieee_order.proofs.Order.{float_trans, float_lt_le, float_not_le, float_clash, le_numbers}
use Rattle.ieee_order.proofs.Extremes.{max_keeps, max_picks, max_and_nan, max_number, le_max_first, le_max_second}
use Rattle.ieee_order.proofs.Magnitude.{abs_nan}
use Rattle.encoder_scalefactors.specs.Indices.{covers, multiplier, pick_of, or_first, largest, index_from, index_at, PickIs, ScalefactorIndexIs, Covering}

count : length scalefactors ≡ 63
unfolding scalefactors
count = refl

-- ---- the search

-- the multipliers that cover stand first
pub partitioned : (x : Float) → IsPartitionedBy (le x) scalefactors
partitioned x i j d l h t =
    ⊎_elim (λ e. subst (λ (k : ℕ). le x (get_or scalefactors k d) ≡ true) (sym e) t) (λ m. is_true _ (go m)) (eq-or-lt_of_le l)
  where
    go : i < j → T (le x (get_or scalefactors i d))
    go m =
        let k : i < length scalefactors = le_trans m (le_of_lt h) in
        let covered : T (le x (get_or scalefactors j nan)) = subst T (sym (ap (le x) (get_or_default scalefactors j nan d h) ∙ t)) tt in
        subst (λ (v : Float). T (le x v)) (get_or_default scalefactors i nan d k)
        (float_trans x (get_or scalefactors j nan) (get_or scalefactors i nan) covered (float_lt_le _ _ (descends i j m h)))

-- one less than the number of those that cover
pub pick_found : (x : Float) (n : ℕ) → n ≤ length scalefactors → IsPartitionPoint (λ m. le x m ≡ true) (λ m. le x m ≡ false) scalefactors n → PickIs x (n - 1)
unfolding pick_of
pick_found x zero h p = record {
  whole = sym (ap or_first (last_missing (covers x) scalefactors nan (λ k l. p.1 k nan zero-le l)));
  small = omega arith;
}
pick_found x (suc i) h p = record {
  whole = let e : suc i - 1 ≡ i = omega arith in e ∙ sym (ap or_first (last_found (covers x) scalefactors i nan h (λ k g l. p.1 k nan g l) (p.0 i nan zero-le (lt-suc_self i))));
  small = let l = rw count at h in omega arith;
}

-- ---- what the index found for a magnitude says: where any multiplier covers it, the index's does; the next never does

pub pick_covers : (x : Float) (j : ℕ) → j < 63 → T (covers x (multiplier j)) → T (covers x (multiplier (pick_of x)))
unfolding pick_of
pick_covers x j h t = go (last_told (covers x) scalefactors nan)
  where
    go : Told (covers x) scalefactors nan → T (covers x (multiplier (or_first (last_place (covers x) scalefactors))))
    go (inl (e, b)) = absurd (subst T (b j (rw count h)) t)
    go (inr (i, e, l, c, b)) = rw e (subst T (sym c) tt)

pub pick_tight : (x : Float) → pick_of x < 62 → covers x (multiplier (pick_of x + 1)) ≡ false
unfolding pick_of
pick_tight x h = go (last_told (covers x) scalefactors nan)
  where
    go : Told (covers x) scalefactors nan → covers x (multiplier (or_first (last_place (covers x) scalefactors) + 1)) ≡ false
    go (inl (e, b)) = rw e (b 1 (rw count (lit< tt)))
    go (inr (i, e, l, c, b)) =
        let m : i < 62 = rw e at h in
        rw e (b (i + 1) (omega arith) (rw count (omega arith)))

-- ---- the largest magnitude

-- the twelve samples of a granule
granule_length : (xs : List Float) (s : ℕ) → s + 12 ≤ length xs → length (slice_range xs s (s + 12)) ≡ 12
granule_length xs s h = rw (length-take, length-drop) (omega arith)

pub within_granule : (xs : List Float) (s k : ℕ) → k < length (slice_range xs s (s + 12)) → k < 12
within_granule xs s k l = let m = length-take (s + 12 - s) (drop s xs) in omega arith

pub granule_end : (xs : List Float) (s k : ℕ) → s + 12 ≤ length xs → k ≤ length (slice_range xs s (s + 12)) → length (slice_range xs s (s + 12)) ≤ k → k ≡ 12
granule_end xs s k h l m = let e = granule_length xs s h in omega arith

-- one sample more, read from the granule
pub largest_more : (xs : List Float) (s k : ℕ) (m v r : Float) → m ≡ largest xs s k → k < 12
    → v ≡ abs_of (get_or (slice_range xs s (s + 12)) k nan) → r ≡ max_of m v → r ≡ largest xs s (k + 1)
unfolding largest
largest_more xs s k m v r e h q p =
    let l : k < s + 12 - s = omega arith in
    rw (add-one k) (p ∙ ap₂ max_of e (q ∙ ap abs_of (get_or-take (s + 12 - s) (drop s xs) k nan l ∙ get_or-drop s xs k nan)))

-- it is a number
largest_number : (xs : List Float) (s n : ℕ) → is_nan (largest xs s n) ≡ false
unfolding largest is_nan
largest_number xs s zero = refl
largest_number xs s (suc n) = max_number (largest xs s n) (abs_of (get_or xs (s + n) nan)) (largest_number xs s n)

-- it is at least each sample's that is no NaN
largest_above : (xs : List Float) (s n k : ℕ) → k < n → is_nan (get_or xs (s + k) nan) ≡ false → T (le (abs_of (get_or xs (s + k) nan)) (largest xs s n))
unfolding largest
largest_above xs s zero k h q = absurd (not-suc-le-zero h)
largest_above xs s (suc n) k h q =
    let l = largest xs s n in
    let v = abs_of (get_or xs (s + n) nan) in
    ⊎_elim
    (λ e. rw e (le_max_second l v (abs_nan (get_or xs (s + n) nan) ∙ subst (λ (j : ℕ). is_nan (get_or xs (s + j) nan) ≡ false) e q)))
    (λ m. float_trans _ l _ (largest_above xs s n k m q) (le_max_first l v (largest_number xs s n)))
    (eq-or-lt_of_le (le_of_suc-le-suc h))

-- it is at most what bounds 0 and each of those
largest_below : (xs : List Float) (s n : ℕ) (m : Float) → T (le (fin false 0 (pos 0)) m)
    → ((k : ℕ) → k < n → is_nan (get_or xs (s + k) nan) ≡ false → T (le (abs_of (get_or xs (s + k) nan)) m)) → T (le (largest xs s n) m)
unfolding largest
largest_below xs s zero m z b = z
largest_below xs s (suc n) m z b = go (is_nan (get_or xs (s + n) nan)) refl (largest_below xs s n m z (λ k l. b k (le_trans l (le-suc n))))
  where
    go : (t : Bool) → is_nan (get_or xs (s + n) nan) ≡ t → T (le (largest xs s n) m) → T (le (max_of (largest xs s n) (abs_of (get_or xs (s + n) nan))) m)
    go true q r = rw (max_and_nan (largest xs s n) (abs_of (get_or xs (s + n) nan)) (abs_nan (get_or xs (s + n) nan) ∙ q)) r
    go false q r = max_keeps (λ v. T (le v m)) (largest xs s n) (abs_of (get_or xs (s + n) nan)) r (b n (lt-suc_self n) q)

-- it is 0 or one sample's
largest_is : (xs : List Float) (s n : ℕ)
    → (largest xs s n ≡ fin false 0 (pos 0)) ⊎ ((k : ℕ) × (k < n) × (largest xs s n ≡ abs_of (get_or xs (s + k) nan)))
unfolding largest
largest_is xs s zero = inl refl
largest_is xs s (suc n) =
    ⊎_elim
    (λ e. ⊎_elim (λ z. inl (e ∙ z)) (λ p. inr (p.0, le_trans p.1 (le-suc n), e ∙ p.2)) (largest_is xs s n))
    (λ e. inr (n, lt-suc_self n, e))
    (max_picks (largest xs s n) (abs_of (get_or xs (s + n) nan)))

-- ---- what the index of a granule is worth

-- every multiplier is above 0
positive : (i : ℕ) → i < 63 → T (le (fin false 0 (pos 0)) (multiplier i))
positive = below 63 (λ i. le (fin false 0 (pos 0)) (multiplier i)) computed
  where
    computed : T (all_below 63 (λ i. le (fin false 0 (pos 0)) (multiplier i)))
    computed = unfold scalefactors le in tt

-- the next multiplier is below the largest magnitude
next_below : (x : Float) → is_nan x ≡ false → pick_of x < 62 → T (lt (multiplier (pick_of x + 1)) x)
next_below x q h =
    float_not_le x (multiplier (pick_of x + 1)) q
    (le_numbers (fin false 0 (pos 0)) (multiplier (pick_of x + 1)) (positive (pick_of x + 1) (omega arith))).1 (pick_tight x h)

-- which is then some sample's
tight_at : (xs : List Float) (s : ℕ) (x : Float) → is_nan x ≡ false → pick_of x < 62
    → (x ≡ fin false 0 (pos 0)) ⊎ ((k : ℕ) × (k < 12) × (x ≡ abs_of (get_or xs (s + k) nan)))
    → (k : ℕ) × (k < 12) × T (lt (multiplier (pick_of x + 1)) (abs_of (get_or xs (s + k) nan)))
tight_at xs s x q h (inl z) =
    absurd (float_clash (multiplier (pick_of x + 1)) x (next_below x q h)
    (subst (λ (v : Float). T (le v (multiplier (pick_of x + 1)))) (sym z) (positive (pick_of x + 1) (omega arith))))
tight_at xs s x q h (inr p) = (p.0, p.1, subst (λ (v : Float). T (lt (multiplier (pick_of x + 1)) v)) p.2 (next_below x q h))

pub worth : (xs : List Float) (s : ℕ) → Covering xs s (index_from xs s)
unfolding index_from
worth xs s = record {
  covered =
      λ j h b k l q. float_trans _ (largest xs s 12) _ (largest_above xs s 12 k l q)
      (pick_covers (largest xs s 12) j h (largest_below xs s 12 (multiplier j) (positive j h) b));
  tight = λ h. tight_at xs s (largest xs s 12) (largest_number xs s 12) h (largest_is xs s 12);
}

-- what the code returns for a granule
pub index_is : (xs : List Float) (s : ℕ) (x : Float) (r : ℕ) → x ≡ largest xs s 12 → PickIs x r → ScalefactorIndexIs xs s r
unfolding index_from
index_is xs s x r e p =
    let q : r ≡ index_from xs s = p.whole ∙ ap pick_of e in
    record { whole = q; most = p.small; worth = subst (Covering xs s) (sym q) (worth xs s) }

-- ---- one side of the limit and the other

pub within : (xs : List (List Float)) (limit g sb r : ℕ) → sb < limit → r ≡ index_from (get_or xs sb []) (12 * g) → r ≡ index_at xs limit g sb
unfolding index_at
within xs limit g sb r h e = rw (lt-ltb sb limit h) e

pub beyond : (xs : List (List Float)) (limit g sb : ℕ) → limit ≤ sb → 62 ≡ index_at xs limit g sb
unfolding index_at
beyond xs limit g sb h = rw (le-ltb sb limit h)
