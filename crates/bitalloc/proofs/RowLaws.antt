-- The rule of the rows, shown a single time over table and subband; the sums of nbal; and that the place of a row's steps and the steps at
-- a row's place are each other's inverse.
use Rattle.std.proofs.lemmas.Option.{none-some, same_Some}
use Rattle.std.specs.Prelude.{None, Some}
use mathlib.Core.Path.{◌≡◌, refl, sym, ap, ap₂, ◌∙◌, subst}
use mathlib.Core.Bool.{Bool, true, false, ◌&&◌, and-false}
use mathlib.Core.List.{List, []}
use Prim.Native.Nat.{ℕ, ◌+◌, ◌-◌, ◌^◌, ◌≤◌, ◌<◌}
use mir.Val.{bool_byte}
use native.Mathlib.Nat.{lt_of_lt_of_le, lt_trans, not-suc-le-zero}
use native.Mathlib.Decide.{dec_lt}
use native.Mathlib.Omega.{arith}
use borrow.Author.Tests.{lt-ltb, le-ltb, lt-leb, eq-eqb, ne_eqb, eqb-true}
use lib.Pow.{pow_mono}
use lib.Dec.{T, leb, ltb, eqb, ltb→lt, leb→le, eqb→eq, lit<, lit≤}
use lib.Count.{count_leading_zeros}
use lib.ListN.{length, get_or}
use Rattle.tables.proofs.Listed.{tabulated}
use Rattle.bitalloc.specs.Storage.{row_of16, first_of_three}
use Rattle.tables.specs.Search.{entry_at}
use Rattle.tables.specs.Sum.{sum_below}
use Rattle.tables.proofs.Rule.{first, second, all_below, below, all, all_at, ordered, ordered_at}
use Rattle.tables.proofs.Search.{there, past, place_found, place_missing, at_place, none_passes}
use Rattle.bitalloc.specs.declared.BitAllocTable.{BitAllocTable}
use Rattle.bitalloc.specs.declared.BitAllocTable.TheVariants.{B2a, B2b, B2c, B2d, B1Lsf}
use Rattle.bitalloc.specs.Tables.{Range, RowRule, StepsAre, AllocationIndexIs, ranges, range_of, holds, width_in, row_in, nbal_of, row_of, sblimit_of, nbal_sum, steps_at, index_of}

-- ---- the rule

-- the rule as one test
ruled : ℕ → List ℕ → Bool
ruled nbal row =
    leb 2 nbal && (leb nbal 4 && (eqb (length row) (2 ^ nbal)
    && (eqb (get_or row 0 1) 0 && (ordered ltb row && all (λ n. leb n 65535) row))))

computed : (t : BitAllocTable) → T (all_below (sblimit_of t) (λ sb. ruled (nbal_of t sb) (row_of t sb)))
unfolding ruled nbal_of row_of ranges
computed B2a = tt
computed B2b = tt
computed B2c = tt
computed B2d = tt
computed B1Lsf = tt

rule_of : (nbal : ℕ) (row : List ℕ) → T (ruled nbal row) → RowRule nbal row
unfolding ruled
rule_of nbal row t =
    let t₁ = second (leb 2 nbal) _ t in
    let t₂ = second (leb nbal 4) _ t₁ in
    let t₃ = second (eqb (length row) (2 ^ nbal)) _ t₂ in
    let t₄ = second (eqb (get_or row 0 1) 0) _ t₃ in
    record {
      least = leb→le _ _ (first (leb 2 nbal) _ t);
      most = leb→le _ _ (first (leb nbal 4) _ t₁);
      places = eqb→eq _ _ (first (eqb (length row) (2 ^ nbal)) _ t₂);
      zeroth = eqb→eq _ _ (first (eqb (get_or row 0 1) 0) _ t₃);
      rising = λ i j l h. ltb→lt _ _ (ordered_at ltb row 0 (first (ordered ltb row) _ t₄) i j l h);
      topped = λ i. leb→le _ _ (all_at (λ n. leb n 65535) row 0 tt (second (ordered ltb row) _ t₄) i);
    }

-- every row below sblimit keeps the rule
pub row_rule : (t : BitAllocTable) (sb : ℕ) → sb < sblimit_of t → RowRule (nbal_of t sb) (row_of t sb)
row_rule t sb h = rule_of (nbal_of t sb) (row_of t sb) (below (sblimit_of t) (λ sb. ruled (nbal_of t sb) (row_of t sb)) (computed t) sb h)

-- ---- outside the table

ends_below : ℕ → Range → Bool
ends_below n g = ltb g.last n

ends : (t : BitAllocTable) → T (all (ends_below (sblimit_of t)) (ranges t))
unfolding ends_below ranges
ends B2a = tt
ends B2b = tt
ends B2c = tt
ends B2d = tt
ends B1Lsf = tt

no_range : (t : BitAllocTable) (sb : ℕ) → sblimit_of t ≤ sb → range_of t sb ≡ None
unfolding range_of ends_below
no_range t sb h =
    ap (entry_at (ranges t))
    (none_passes (holds sb) (ends_below (sblimit_of t)) (ranges t) (ends t)
    (λ g l. rw (lt-leb sb g.last (lt_of_lt_of_le (ltb→lt g.last (sblimit_of t) l) h)) (and-false (leb g.first sb))))

pub no_row : (t : BitAllocTable) (sb : ℕ) → sblimit_of t ≤ sb → row_of t sb ≡ []
unfolding row_of
no_row t sb h = ap row_in (no_range t sb h)

pub no_field : (t : BitAllocTable) (sb : ℕ) → sblimit_of t ≤ sb → nbal_of t sb ≡ 0
unfolding nbal_of
no_field t sb h = ap width_in (no_range t sb h)

-- ---- every subband, carried or not

pub sblimit_small : (t : BitAllocTable) → sblimit_of t ≤ 30
sblimit_small B2a = lit≤ tt
sblimit_small B2b = lit≤ tt
sblimit_small B2c = lit≤ tt
sblimit_small B2d = lit≤ tt
sblimit_small B1Lsf = lit≤ tt

-- what holds of each row under the rule, and of no row, holds at every subband
module _ (P : ℕ → List ℕ → Type 0) (kept : (n : ℕ) (row : List ℕ) → RowRule n row → P n row) (no_place : P 0 []) (t : BitAllocTable) (sb : ℕ) where
  everywhere : P (nbal_of t sb) (row_of t sb)
  everywhere = go (dec_lt sb (sblimit_of t))
    where
      go : Dec (sb < sblimit_of t) → P (nbal_of t sb) (row_of t sb)
      go (yes h) = kept _ _ (row_rule t sb h)
      go (no h) =
          let l : sblimit_of t ≤ sb = omega arith in
          rw (no_field t sb l, no_row t sb l) no_place

pub places_small : (t : BitAllocTable) (sb : ℕ) → length (row_of t sb) ≤ 16
places_small = everywhere (λ n row. length row ≤ 16) (λ n row r. rw r.places (pow_mono r.most)) (lit≤ tt)

-- a subband that is carried has place 0
pub some_place : (t : BitAllocTable) (sb : ℕ) → sb < sblimit_of t → 0 < length (row_of t sb)
some_place t sb h = let r = row_rule t sb h in rw r.places (lt_of_lt_of_le (lit< tt) (pow_mono r.least))

-- and place 1
pub two_places : (t : BitAllocTable) (sb : ℕ) → sb < sblimit_of t → 1 < length (row_of t sb)
two_places t sb h = let r = row_rule t sb h in rw r.places (lt_of_lt_of_le (lit< tt) (pow_mono r.least))

pub steps_small : (t : BitAllocTable) (sb i : ℕ) → get_or (row_of t sb) i 0 ≤ 65535
steps_small t sb i = everywhere (λ n row. get_or row i 0 ≤ 65535) (λ n row r. r.topped i) (lit≤ tt) t sb

-- ---- the rows as the code has them

-- the sixteen numbers of a row have its steps at its places, and 0 at any other
pub row_number_lem : (t : BitAllocTable) (sb p : ℕ) (row : List ℕ) → row ≡ row_of16 t sb → p < 16 → get_or row p 0 ≡ get_or (row_of t sb) p 0
unfolding row_of16
row_number_lem t sb p row e h =
    ap (λ (row : List ℕ). get_or row p 0) e ∙ tabulated 16 (λ p. get_or (row_of t sb) p 0) p 0 h

-- what the code reads at a place of a row
pub row_steps : (t : BitAllocTable) (sb i : ℕ) (row : List ℕ) → row ≡ row_of16 t sb → i < length (row_of t sb) → get_or row i 0 ≡ get_or (row_of t sb) i 0
row_steps t sb i row e h = row_number_lem t sb i row e (lt_of_lt_of_le h (places_small t sb))

-- ---- the steps at a place, and the place of steps

held : {m n : ℕ} → Some m ≡ Some n → m ≡ n
held e = cc

pub steps_there : (t : BitAllocTable) (sb i places : ℕ) (row : List ℕ) → row ≡ row_of16 t sb → places ≡ length (row_of t sb) → i < places
    → StepsAre t sb i (Some (get_or row i 0))
unfolding steps_at
steps_there t sb i places row e p h =
    let l : i < length (row_of t sb) = subst (λ (n : ℕ). i < n) p h in
    let v = row_steps t sb i row e l in
    record {
      whole = ap Some v ∙ sym (there (row_of t sb) i 0 l);
      below = λ n q. (lt_of_lt_of_le l (places_small t sb), subst (λ (n : ℕ). n ≤ 65535) (sym v ∙ held q) (steps_small t sb i));
    }

pub steps_past : (t : BitAllocTable) (sb i places : ℕ) → places ≡ length (row_of t sb) → places ≤ i → StepsAre t sb i None
unfolding steps_at
steps_past t sb i places p h = record {
  whole = sym (past (row_of t sb) i (subst (λ (n : ℕ). n ≤ i) p h));
  below = λ n q. absurd (none-some n q);
}

pub index_found_lem : (t : BitAllocTable) (sb steps i places : ℕ) (row : List ℕ) → row ≡ row_of16 t sb → places ≡ length (row_of t sb)
    → i < places → ((k : ℕ) → k < i → get_or row k 0 ≡ steps → ⊥) → get_or row i 0 ≡ steps → AllocationIndexIs t sb steps (Some i)
unfolding index_of
index_found_lem t sb steps i places row e p h b q =
    let l : i < length (row_of t sb) = subst (λ (n : ℕ). i < n) p h in
    record {
      whole =
          sym (place_found (λ n. eqb n steps) (row_of t sb) i 0 l
          (λ k m. ne_eqb _ _ (λ r. b k m (row_steps t sb k row e (lt_trans m l) ∙ r)))
          (eq-eqb _ _ (sym (row_steps t sb i row e l) ∙ q)));
      below = λ j r. subst (λ (n : ℕ). n < 16) (held r) (lt_of_lt_of_le l (places_small t sb));
    }

pub index_missing : (t : BitAllocTable) (sb steps places : ℕ) (row : List ℕ) → row ≡ row_of16 t sb → places ≡ length (row_of t sb)
    → ((k : ℕ) → k < places → get_or row k 0 ≡ steps → ⊥) → AllocationIndexIs t sb steps None
unfolding index_of
index_missing t sb steps places row e p b = record {
  whole =
      sym (place_missing (λ n. eqb n steps) (row_of t sb) 0
      (λ k l. ne_eqb _ _ (λ r. b k (subst (λ (n : ℕ). k < n) (sym p) l) (row_steps t sb k row e l ∙ r))));
  below = λ j r. absurd (none-some j r);
}

pub row_rises : (t : BitAllocTable) (sb i j : ℕ) → i < j → j < length (row_of t sb) → get_or (row_of t sb) i 0 < get_or (row_of t sb) j 0
row_rises =
    everywhere (λ n row. (i j : ℕ) → i < j → j < length row → get_or row i 0 < get_or row j 0)
    (λ n row r. r.rising) (λ i j l h. absurd (not-suc-le-zero h))

-- ---- steps stand at one of three places

pub flag_small : (b : Bool) → bool_byte b ≤ 1
flag_small true = lit≤ tt
flag_small false = lit≤ tt

pub two_flags_small : (r : List ℕ) (n s : ℕ) → bool_byte (ltb (get_or r s 0) n) + bool_byte (ltb (get_or r (s + 1) 0) n) ≤ 2
two_flags_small r n s = omega (arith, flag_small (ltb (get_or r s 0) n), flag_small (ltb (get_or r (s + 1) 0) n))

pub flag_within : (n : ℕ) → bool_byte (ltb 0 n) ≤ n
flag_within n = go (dec_lt 0 n)
  where
    go : Dec (0 < n) → bool_byte (ltb 0 n) ≤ n
    go (yes h) = rw (lt-ltb 0 n h) h
    go (no h) = rw (le-ltb 0 n (omega arith)) (omega arith)

pub one_less : (n : ℕ) → n - bool_byte (ltb 0 n) ≡ n - 1
one_less n = go (dec_lt 0 n)
  where
    go : Dec (0 < n) → n - bool_byte (ltb 0 n) ≡ n - 1
    go (yes h) = rw (lt-ltb 0 n h)
    go (no h) = rw (le-ltb 0 n (omega arith)) (omega arith)

-- the rule as one test of a row
near : List ℕ → Bool
near row = all_below (length row) (λ p. leb (first_of_three (length row) (get_or row p 0)) p && leb p (first_of_three (length row) (get_or row p 0) + 2))

computed_near : (t : BitAllocTable) → T (all_below (sblimit_of t) (λ sb. near (row_of t sb)))
unfolding near row_of ranges count_leading_zeros
computed_near B2a = tt
computed_near B2b = tt
computed_near B2c = tt
computed_near B2d = tt
computed_near B1Lsf = tt

-- the three are places of the row
pub three_fit : (places steps : ℕ) → 4 ≤ places → first_of_three places steps + 3 ≤ places
three_fit places steps h = omega arith

-- a row that has a place has four
pub row_long : (t : BitAllocTable) (sb : ℕ) → (length (row_of t sb) ≡ 0 → ⊥) → 4 ≤ length (row_of t sb)
row_long t sb d = go (dec_lt sb (sblimit_of t))
  where
    go : Dec (sb < sblimit_of t) → 4 ≤ length (row_of t sb)
    go (yes h) = let r = row_rule t sb h in rw r.places (pow_mono {i = 2} r.least)
    go (no h) = absurd (d (ap length (no_row t sb (omega arith))))

row_near : (t : BitAllocTable) (sb p : ℕ) → p < length (row_of t sb)
    → (first_of_three (length (row_of t sb)) (get_or (row_of t sb) p 0) ≤ p) × (p ≤ first_of_three (length (row_of t sb)) (get_or (row_of t sb) p 0) + 2)
unfolding near
row_near t sb p h = go (dec_lt sb (sblimit_of t))
  where
    start : ℕ
    start = first_of_three (length (row_of t sb)) (get_or (row_of t sb) p 0)

    go : Dec (sb < sblimit_of t) → (start ≤ p) × (p ≤ start + 2)
    go (yes b) =
        let both = below (length (row_of t sb)) _ (below (sblimit_of t) (λ sb. near (row_of t sb)) (computed_near t) sb b) p h in
        (leb→le start p (first (leb start p) (leb p (start + 2)) both), leb→le p (start + 2) (second (leb start p) (leb p (start + 2)) both))
    go (no b) = absurd (let z = ap length (no_row t sb (omega arith)) in omega arith)

module _ (t : BitAllocTable) (sb places : ℕ) (row : List ℕ) (e : row ≡ row_of16 t sb) (p : places ≡ length (row_of t sb)) where
  rises : (i j : ℕ) → i < j → j < places → get_or row i 0 < get_or row j 0
  rises i j l h =
      let m : j < length (row_of t sb) = subst (λ (n : ℕ). j < n) p h in
      rw (row_steps t sb i row e (lt_trans l m), row_steps t sb j row e m) (row_rises t sb i j l m)

  module _ (steps start place : ℕ) (f : start ≡ first_of_three places steps)
      (which : place ≡ start + bool_byte (ltb (get_or row start 0) steps) + bool_byte (ltb (get_or row (start + 1) 0) steps)) where
    -- where the row has the steps, that place is found
    lands : (k : ℕ) → k < places → get_or row k 0 ≡ steps → place ≡ k
    lands k h q = go (dec_lt start k) (dec_lt (start + 1) k)
      where
        m : k < length (row_of t sb)
        m = subst (λ (n : ℕ). k < n) p h

        long : 4 ≤ places
        long = subst (λ (n : ℕ). 4 ≤ n) (sym p) (row_long t sb (λ z. omega arith))

        same : first_of_three (length (row_of t sb)) (get_or (row_of t sb) k 0) ≡ start
        same = ap₂ (λ (n s : ℕ). first_of_three n s) (sym p) (sym (row_steps t sb k row e m) ∙ q) ∙ sym f

        from : start ≤ k
        from = subst (λ (n : ℕ). n ≤ k) same (row_near t sb k m).0

        to : k ≤ start + 2
        to = subst (λ (n : ℕ). k ≤ n + 2) same (row_near t sb k m).1

        flags : (a b : Bool) → ltb (get_or row start 0) steps ≡ a → ltb (get_or row (start + 1) 0) steps ≡ b → place ≡ start + bool_byte a + bool_byte b
        flags a b x y = which ∙ ap₂ (λ (a b : Bool). start + bool_byte a + bool_byte b) x y

        fewer : (i : ℕ) → i < k → ltb (get_or row i 0) steps ≡ true
        fewer i l = lt-ltb (get_or row i 0) steps (omega (arith, rises i k l h))

        others : (i : ℕ) → k ≤ i → i < places → Dec (k < i) → ltb (get_or row i 0) steps ≡ false
        others i l b (yes g) = le-ltb (get_or row i 0) steps (omega (arith, rises k i g b))
        others i l b (no g) = let z : i ≡ k = omega arith in le-ltb (get_or row i 0) steps (rw z (omega arith))

        within : start + 3 ≤ places
        within = rw f (three_fit places steps long)

        go : Dec (start < k) → Dec (start + 1 < k) → place ≡ k
        go (no a) b =
            let g = from in
            let w = within in
            let z = flags false false (others start (omega arith) (omega arith) (dec_lt k start)) (others (start + 1) (omega arith) (omega arith) (dec_lt k (start + 1))) in
            z ∙ omega arith
        go (yes a) (no b) =
            let w = within in
            let z = flags true false (fewer start a) (others (start + 1) (omega arith) (omega arith) (dec_lt k (start + 1))) in
            z ∙ omega arith
        go (yes a) (yes b) = let t = to in flags true true (fewer start a) (fewer (start + 1) b) ∙ omega arith

    pub three_found : place < places → get_or row place 0 ≡ steps → AllocationIndexIs t sb steps (Some place)
    three_found h q = index_found_lem t sb steps place places row e p h (λ k m r. absurd (omega (arith, rises k place m h))) q

    pub three_missed : (get_or row place 0 ≡ steps → ⊥) → AllocationIndexIs t sb steps None
    three_missed d = index_missing t sb steps places row e p (λ k h q. d (rw (lands k h q) q))

-- ---- the sums of nbal

pub nbal_sums : (t : BitAllocTable) → sum_below 32 (nbal_of t) ≡ nbal_sum t
unfolding nbal_of ranges
nbal_sums B2a = refl
nbal_sums B2b = refl
nbal_sums B2c = refl
nbal_sums B2d = refl
nbal_sums B1Lsf = refl

-- ---- steps and places are each other's inverse

pub index_of_steps : (t : BitAllocTable) (sb i n : ℕ) → steps_at t sb i ≡ Some n → index_of t sb n ≡ Some i
unfolding steps_at index_of
index_of_steps t sb i n e = go (dec_lt i (length (row_of t sb)))
  where
    go : Dec (i < length (row_of t sb)) → index_of t sb n ≡ Some i
    go (yes h) =
        let v : get_or (row_of t sb) i 0 ≡ n = same_Some _ _ (sym (there (row_of t sb) i 0 h) ∙ e) in
        place_found (λ m. eqb m n) (row_of t sb) i 0 h
        (λ k l. ne_eqb (get_or (row_of t sb) k 0) n (λ q. let r = row_rises t sb k i l h in omega arith)) (eq-eqb _ _ v)
    go (no h) = absurd (none-some n (sym (past (row_of t sb) i (omega arith)) ∙ e))

pub steps_of_index : (t : BitAllocTable) (sb i n : ℕ) → index_of t sb n ≡ Some i → steps_at t sb i ≡ Some n
unfolding steps_at index_of
steps_of_index t sb i n e =
    let g = at_place (λ m. eqb m n) (row_of t sb) i e in
    g.1 ∙ ap Some (eqb-true _ _ g.2)

-- a row's place fits the field
pub index_small : (t : BitAllocTable) (sb n p : ℕ) → sb < sblimit_of t → index_of t sb n ≡ Some p → p < 2 ^ nbal_of t sb
unfolding steps_at
index_small t sb n p h e = rw (← (row_rule t sb h).places) (go (dec_lt p (length (row_of t sb))))
  where
    go : Dec (p < length (row_of t sb)) → p < length (row_of t sb)
    go (yes l) = l
    go (no l) = absurd (none-some n (sym (past (row_of t sb) p (omega arith)) ∙ steps_of_index t sb p n e))
