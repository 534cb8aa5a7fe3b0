-- The rules of any list of entries whose rows are a table's: their charges count up, and off NaN their ratios rise, so that the laws of the
-- rounds hold of them.
use mathlib.Core.Path.{◌≡◌, refl, ap}
use mathlib.Core.Bool.{Bool, true, false, cond}
use mathlib.Core.List.{List, [], ◌∷◌, map}
use Prim.Native.Nat.{ℕ, ◌+◌, ◌-◌, ◌≤◌, ◌<◌}
use native.Mathlib.Nat.{not-suc-le-zero, le_of_lt}
use native.Mathlib.Decide.{dec_lt}
use native.Mathlib.Omega.{arith}
use lib.Dec.{T, eqb}
use lib.Pow.{pow_mono}
use lib.IntN.{pos}
use lib.Ieee.{Float, fin, binary64, neg, sub, le, is_nan, fits}
use lib.Ieee.Scale.{finite}
use lib.ListN.{length, get_or, get_or-eq_default}
use borrow.Author.Tests.{eq-eqb, ne_eqb}
use Rattle.ieee_order.proofs.Order.{neg_number}
use Rattle.ieee_order.proofs.Difference.{sub_mono, sub_number, neg_le_sub}
use Rattle.ieee_order.proofs.Extremes.{min_mono, min_number}
use Rattle.bitalloc.specs.declared.BitAllocTable.{BitAllocTable}
use Rattle.bitalloc.specs.Tables.{row_of, sblimit_of}
use Rattle.quantization.specs.Classes.{sample_bits}
use Rattle.bitalloc.proofs.RowLaws.{row_rule, places_small}
use Rattle.encoder_bit_demand.specs.Snr.{snr}
use Rattle.encoder_bit_demand.proofs.RowSnr.{row_snr_rule, row_snr_le, row_bits_rise}
use Rattle.allocation_rounds.specs.Promises.{Counting, Rising}
use Rattle.allocation_run.specs.Entries.{Entry, slot_mnr, least, charge_at, entry_in, rules_of}

-- ---- what is asked of a row: it starts with no steps, and steps, their bits and their signal-to-noise ratios rise along it

pub record Sound (row : List ℕ) : Type 0 where
  pub some : 1 < length row
  pub few : length row ≤ 16
  pub zeroth : get_or row 0 0 ≡ 0
  pub rising : (p : ℕ) → p + 1 < length row → get_or row p 0 < get_or row (p + 1) 0
  pub bits : (p : ℕ) → p + 1 < length row → sample_bits (get_or row p 0) ≤ sample_bits (get_or row (p + 1) 0)
  pub finite_snr : (p : ℕ) → T (finite (snr (get_or row p 0)))
  pub least_snr : (p : ℕ) → T (le (fin false 0 (pos 0)) (snr (get_or row p 0)))
  pub snrs : (p : ℕ) → p + 1 < length row → T (le (snr (get_or row p 0)) (snr (get_or row (p + 1) 0)))

first_zero : (row : List ℕ) → get_or row 0 1 ≡ 0 → get_or row 0 0 ≡ 0
first_zero [] e = refl
first_zero (x ∷ xs) e = e

pub sound_row : (t : BitAllocTable) (sb : ℕ) → sb < sblimit_of t → Sound (row_of t sb)
sound_row t sb h =
    let r = row_rule t sb h in
    record {
      some = let q : 4 ≤ length (row_of t sb) = rw r.places (pow_mono r.least) in omega arith;
      few = places_small t sb;
      zeroth = first_zero (row_of t sb) r.zeroth;
      rising = λ p l. r.rising p (p + 1) (omega arith) l;
      bits = λ p l. le_of_lt (row_bits_rise t sb p (p + 1) (omega arith) l);
      finite_snr = λ p. (row_snr_rule t sb p).finite;
      least_snr = λ p. (row_snr_rule t sb p).least;
      snrs = λ p l. row_snr_le t sb p (p + 1) (omega arith) l;
    }

-- ---- the charges along a row

-- from a place to the next
charge_step : (a b x y first : ℕ) → a < b → x ≤ y → cond (eqb a 0) 0 (x + first) ≤ cond (eqb b 0) 0 (y + first)
charge_step a b x y first l h = rw (ne_eqb b 0 (λ e. absurd (omega arith))) (go (eqb a 0))
  where
    go : (z : Bool) → cond z 0 (x + first) ≤ y + first
    go true = omega arith
    go false = omega arith

-- ---- the ratios along a row

-- each ratio of a list is a number of the format
abbrev pub Numbers : List Float → Type 0
Numbers [] = Unit {0}
Numbers (s ∷ ss) = (is_nan s ≡ false) × (T (fits binary64 s)) × Numbers ss

slot_number : (a : ℕ) (s : Float) → T (finite (snr a)) → is_nan s ≡ false → is_nan (slot_mnr a s) ≡ false
slot_number a s f q = go (eqb a 0)
  where
    go : (z : Bool) → is_nan (cond z (neg s) (sub binary64 (snr a) s)) ≡ false
    go true = neg_number s q
    go false = sub_number binary64 (snr a) s f q

slot_rises : (a b : ℕ) (s : Float) → a < b → T (finite (snr a)) → T (finite (snr b)) → T (le (fin false 0 (pos 0)) (snr b)) → T (le (snr a) (snr b))
    → is_nan s ≡ false → T (fits binary64 s) → T (le (slot_mnr a s) (slot_mnr b s))
slot_rises a b s l f g z m q t = rw (ne_eqb b 0 (λ e. absurd (omega arith))) (go (eqb a 0))
  where
    go : (v : Bool) → T (le (cond v (neg s) (sub binary64 (snr a) s)) (sub binary64 (snr b) s))
    go true = neg_le_sub binary64 (snr b) s g z q t
    go false = sub_mono binary64 (snr a) (snr b) s f g q m

least_number : (a : ℕ) (ss : List Float) → T (finite (snr a)) → 0 < length ss → Numbers ss → is_nan (least (map (slot_mnr a) ss)) ≡ false
least_number a [] f h ns = absurd (not-suc-le-zero h)
least_number a (s ∷ []) f h ns = slot_number a s f ns.0
least_number a (s ∷ u ∷ ss) f h ns = min_number (slot_mnr a s) (least (map (slot_mnr a) (u ∷ ss))) (slot_number a s f ns.0)

least_rises : (a b : ℕ) (ss : List Float) → ((s : Float) → is_nan s ≡ false → T (fits binary64 s) → T (le (slot_mnr a s) (slot_mnr b s)))
    → 0 < length ss → Numbers ss → T (le (least (map (slot_mnr a) ss)) (least (map (slot_mnr b) ss)))
least_rises a b [] r h ns = absurd (not-suc-le-zero h)
least_rises a b (s ∷ []) r h ns = r s ns.0 ns.1
least_rises a b (s ∷ u ∷ ss) r h ns =
    min_mono (slot_mnr a s) (slot_mnr b s) (least (map (slot_mnr a) (u ∷ ss))) (least (map (slot_mnr b) (u ∷ ss)))
    (r s ns.0 ns.1) (least_rises a b (u ∷ ss) r (omega arith) ns.2)

-- ---- the rules of a list of entries

module _ (es : List Entry) (sound : (f : ℕ) → f < length es → Sound (entry_in es f).row) where
  pub counting : length es ≤ 64 → Counting (rules_of es)
  unfolding rules_of
  counting few = record {
    few = few;
    nothing = λ f. nothing f (dec_lt f (length es));
    rising = λ f p h l. let r = sound f h in
        charge_step (get_or (entry_in es f).row p 0) (get_or (entry_in es f).row (p + 1) 0) (sample_bits (get_or (entry_in es f).row p 0))
        (sample_bits (get_or (entry_in es f).row (p + 1) 0)) (entry_in es f).first (r.rising p (omega arith)) (r.bits p (omega arith));
  }
    where
      nothing : (f : ℕ) → Dec (f < length es) → charge_at (entry_in es f) 0 ≡ 0
      nothing f (yes h) = rw (eq-eqb (get_or (entry_in es f).row 0 0) 0 (sound f h).zeroth)
      nothing f (no h) = ap (λ (e : Entry). charge_at e 0) (get_or-eq_default es (record { row = []; smr = []; first = 0 }) {n = f} (omega arith))

  pub rising : ((f : ℕ) → f < length es → (0 < length (entry_in es f).smr) × Numbers (entry_in es f).smr) → Rising (rules_of es)
  unfolding rules_of
  rising ns = record {
    number = λ f p h l. least_number (get_or (entry_in es f).row p 0) (entry_in es f).smr ((sound f h).finite_snr p) (ns f h).0 (ns f h).1;
    rises = λ f p h l. let r = sound f h in
        least_rises (get_or (entry_in es f).row p 0) (get_or (entry_in es f).row (p + 1) 0) (entry_in es f).smr
        (λ s q u. slot_rises (get_or (entry_in es f).row p 0) (get_or (entry_in es f).row (p + 1) 0) s (r.rising p (omega arith))
        (r.finite_snr p) (r.finite_snr (p + 1)) (r.least_snr (p + 1)) (r.snrs p (omega arith)) q u)
        (ns f h).0 (ns f h).1;
  }

  -- a place up to the top of a field is a place of its row
  pub up_to_top : (f p : ℕ) → f < length es → p ≤ length (entry_in es f).row - 1 → p < length (entry_in es f).row
  up_to_top f p h l = let s = (sound f h).some in omega arith
