-- Every number of a row is in Table C.5, above place 0 in Table 3-B.4 too, by a test that antt computes over the rows; so along a row the
-- ratios and the sample bits rise.
use Rattle.std.specs.Prelude.{Option, None, Some, is_some}
use mathlib.Core.Path.{◌≡◌, refl, sym, ap, ◌∙◌}
use mathlib.Core.Bool.{Bool, not, ◌&&◌, ◌||◌}
use mathlib.Core.List.{List, [], ◌∷◌}
use mathlib.Core.Logic.{⊎_elim}
use Prim.Native.Nat.{ℕ, zero, suc, ◌≤◌, ◌<◌}
use native.Mathlib.Decide.{dec_lt}
use native.Mathlib.Nat.{not-suc-le-zero, le_of_suc-le-suc, zero-lt-suc, eq-or-lt_of_le, le_of_eq, le_of_lt}
use native.Mathlib.Omega.{arith}
use lib.Dec.{T, eqb, ltb, ltb→lt}
use lib.ListN.{length, get_or, drop}
use lib.Ieee.{le}
use borrow.Author.Tests.{lt-ltb, eqb-true}
use Rattle.tables.specs.Search.{one_of}
use Rattle.tables.proofs.Rule.{first, second, all, all_at, all_below, below}
use Rattle.tables.proofs.Search.{find_passes}
use Rattle.tables.proofs.Keys.{of_member}
use Rattle.bitalloc.specs.declared.BitAllocTable.{BitAllocTable}
use Rattle.bitalloc.specs.declared.BitAllocTable.TheVariants.{B2a, B2b, B2c, B2d, B1Lsf}
use Rattle.quantization.specs.declared.QuantClass.{QuantClass}
use Rattle.bitalloc.specs.Tables.{row_of, sblimit_of}
use Rattle.quantization.specs.Classes.{classes, class_of, sample_bits, frame_bits}
use Rattle.bitalloc.proofs.RowLaws.{row_rule, row_rises, no_row}
use Rattle.encoder_bit_demand.specs.Snr.{snr_of, snr, or_nan}
use Rattle.encoder_bit_demand.proofs.SnrLaws.{keys, SnrRule, snr_rule, snr_le}

-- ---- the numbers of a row

-- the steps of Table 3-B.4: those of Table C.5 but 0
abbrev class_keys : List ℕ
class_keys = drop 1 keys

keyed : List ℕ → Bool
keyed row = all (one_of keys) row && all (one_of class_keys) (drop 1 row)

computed : (t : BitAllocTable) → T (all_below (sblimit_of t) (λ sb. keyed (row_of t sb)))
unfolding keyed one_of row_of
computed B2a = tt
computed B2b = tt
computed B2c = tt
computed B2d = tt
computed B1Lsf = tt

-- what holds of each row below sblimit, and of no row, holds of every row
module _ (P : List ℕ → Type 0) (t : BitAllocTable) (sb : ℕ) (carried : sb < sblimit_of t → P (row_of t sb)) (no_place : P []) where
  everywhere : P (row_of t sb)
  everywhere = go (dec_lt sb (sblimit_of t))
    where
      go : Dec (sb < sblimit_of t) → P (row_of t sb)
      go (yes h) = carried h
      go (no h) = rw (no_row t sb (omega arith)) no_place

row_keyed : (t : BitAllocTable) (sb : ℕ) → T (keyed (row_of t sb))
unfolding keyed
row_keyed t sb =
    everywhere (λ row. T (keyed row)) t sb (below (sblimit_of t) (λ sb. keyed (row_of t sb)) (computed t) sb) tt

-- of each entry of a list
all_within : (p : ℕ → Bool) (xs : List ℕ) (i : ℕ) → T (all p xs) → i < length xs → T (p (get_or xs i 0))
all_within p [] i t h = absurd (not-suc-le-zero h)
all_within p (x ∷ xs) zero t h = first (p x) (all p xs) t
all_within p (x ∷ xs) (suc i) t h = all_within p xs i (second (p x) (all p xs) t) (le_of_suc-le-suc h)

held : {A : Type 0} (o : Option A) → T (is_some o) → (x : A) × (o ≡ Some x)
held None t = absurd t
held (Some x) t = (x, refl)

-- ---- Table C.5

computed_snrs : T (all (λ n. is_some (snr_of n)) keys)
unfolding snr_of
computed_snrs = tt

-- at every place, and past the last, where 0 stands
pub row_snr : (t : BitAllocTable) (sb i : ℕ) → snr_of (get_or (row_of t sb) i 0) ≡ Some (snr (get_or (row_of t sb) i 0))
unfolding keyed one_of
row_snr t sb i =
    let n = get_or (row_of t sb) i 0 in
    let k = all_at (one_of keys) (row_of t sb) 0 tt (first (all (one_of keys) (row_of t sb)) _ (row_keyed t sb)) i in
    let g = held (snr_of n) (of_member (λ n. is_some (snr_of n)) keys n computed_snrs k) in
    g.1 ∙ ap Some (sym (ap or_nan g.1))

pub row_snr_rule : (t : BitAllocTable) (sb i : ℕ) → SnrRule (snr (get_or (row_of t sb) i 0))
row_snr_rule t sb i = snr_rule (get_or (row_of t sb) i 0) (snr (get_or (row_of t sb) i 0)) (row_snr t sb i)

row_steps_le : (t : BitAllocTable) (sb i j : ℕ) → i ≤ j → j < length (row_of t sb) → get_or (row_of t sb) i 0 ≤ get_or (row_of t sb) j 0
row_steps_le t sb i j l h =
    ⊎_elim (λ e. le_of_eq (ap (λ (k : ℕ). get_or (row_of t sb) k 0) e)) (λ m. le_of_lt (row_rises t sb i j m h)) (eq-or-lt_of_le l)

pub row_snr_le : (t : BitAllocTable) (sb i j : ℕ) → i ≤ j → j < length (row_of t sb)
    → T (le (snr (get_or (row_of t sb) i 0)) (snr (get_or (row_of t sb) j 0)))
row_snr_le t sb i j l h =
    snr_le (get_or (row_of t sb) i 0) (get_or (row_of t sb) j 0) (snr (get_or (row_of t sb) i 0)) (snr (get_or (row_of t sb) j 0))
    (row_snr t sb i) (row_snr t sb j) (row_steps_le t sb i j l h)

-- ---- Table 3-B.4

computed_classes : T (all (λ n. is_some (class_of n)) class_keys)
unfolding class_of
computed_classes = tt

pub row_class : (t : BitAllocTable) (sb i : ℕ) → 0 < i → i < length (row_of t sb)
    → (q : QuantClass) × (class_of (get_or (row_of t sb) i 0) ≡ Some q)
unfolding keyed
row_class t sb zero l h = absurd (not-suc-le-zero l)
row_class t sb (suc i) l h = go (row_of t sb) (second (all (one_of keys) (row_of t sb)) _ (row_keyed t sb)) h
  where
    go : (row : List ℕ) → T (all (one_of class_keys) (drop 1 row)) → suc i < length row → (q : QuantClass) × (class_of (get_or row (suc i) 0) ≡ Some q)
    go [] k h = absurd (not-suc-le-zero h)
    go (x ∷ row) k h =
        held (class_of (get_or row i 0))
        (of_member (λ n. is_some (class_of n)) class_keys (get_or row i 0) computed_classes (all_within (one_of class_keys) row i k (le_of_suc-le-suc h)))

-- the sample bits rise with the steps, from above 0
costlier : QuantClass → QuantClass → Bool
costlier p q =
    ltb 0 (frame_bits (Some p)) && (not (ltb p.nb_steps q.nb_steps) || ltb (frame_bits (Some p)) (frame_bits (Some q)))

computed_costs : T (all (λ p. all (costlier p) classes) classes)
unfolding costlier classes
computed_costs = tt

class_costs : (a b : ℕ) (p q : QuantClass) → class_of a ≡ Some p → class_of b ≡ Some q
    → (0 < frame_bits (Some p)) × (a < b → frame_bits (Some p) < frame_bits (Some q))
unfolding class_of costlier
class_costs a b p q e f =
    let g = find_passes (λ r. eqb r.nb_steps a) (λ p. all (costlier p) classes) classes p computed_costs e in
    let d = find_passes (λ r. eqb r.nb_steps b) (costlier p) classes q g.1 f in
    let more = second (ltb 0 (frame_bits (Some p))) _ d.1 in (
      ltb→lt _ _ (first (ltb 0 (frame_bits (Some p))) _ d.1),
      λ l. ltb→lt _ _ (rw (eqb-true p.nb_steps a g.0, eqb-true q.nb_steps b d.0, lt-ltb a b l) at more),
    )

-- a class's steps cost its sample bits
bits_of : (n : ℕ) (q : QuantClass) → class_of n ≡ Some q → sample_bits n ≡ frame_bits (Some q)
unfolding sample_bits
bits_of n q e = ap frame_bits e

no_bits : sample_bits 0 ≡ 0
unfolding sample_bits
no_bits = refl

first_place_lem : (t : BitAllocTable) (sb : ℕ) → get_or (row_of t sb) 0 0 ≡ 0
first_place_lem t sb = everywhere (λ row. get_or row 0 0 ≡ 0) t sb (λ h. same (row_of t sb) (row_rule t sb h).zeroth) refl
  where
    same : (row : List ℕ) → get_or row 0 1 ≡ 0 → get_or row 0 0 ≡ 0
    same [] e = refl
    same (x ∷ row) e = e

pub row_bits_rise : (t : BitAllocTable) (sb i j : ℕ) → i < j → j < length (row_of t sb)
    → sample_bits (get_or (row_of t sb) i 0) < sample_bits (get_or (row_of t sb) j 0)
row_bits_rise t sb zero j l h =
    let n = get_or (row_of t sb) j 0 in
    let q = row_class t sb j l h in
    rw (first_place_lem t sb, no_bits, bits_of n q.0 q.1) (class_costs n n q.0 q.0 q.1 q.1).0
row_bits_rise t sb (suc i) j l h =
    let m = get_or (row_of t sb) (suc i) 0 in
    let n = get_or (row_of t sb) j 0 in
    let p = row_class t sb (suc i) (zero-lt-suc i) (omega arith) in
    let q = row_class t sb j (omega arith) h in
    rw (bits_of m p.0 p.1, bits_of n q.0 q.1)
    ((class_costs m n p.0 q.0 p.1 q.1).1 (row_rises t sb (suc i) j l h))
