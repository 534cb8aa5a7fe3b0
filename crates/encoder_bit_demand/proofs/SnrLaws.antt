-- Table C.5: its rule, by one test that antt computes over the table, and the row of a number of steps.
use Rattle.std.proofs.lemmas.Option.{none-some, same_Some}
use Rattle.std.specs.Prelude.{Option, None, Some, MatchOption, option_map, slice_get}
use mathlib.Core.Path.{◌≡◌, refl, sym, ap, ◌∙◌, subst, subst₂}
use mathlib.Core.Bool.{Bool, false, not, ◌&&◌, ◌||◌}
use mathlib.Core.Logic.{⊎_elim}
use mathlib.Core.List.{List, [], ◌∷◌, map}
use Prim.Native.Nat.{ℕ, zero, suc, ◌-◌, ◌≤◌, ◌<◌}
use native.Mathlib.Nat.{eq-or-lt_of_le}
use types.Run.{OneOf}
use lib.Count.{count_leading_zeros}
use lib.ListN.{get_or}
use lib.Dec.{T, ltb, eqb}
use lib.Ieee.{Float, nan, inf, fin, lt, le, is_nan}
use lib.Ieee.Scale.{finite}
use lib.IntN.{pos}
use borrow.Author.Tests.{lt-ltb, ne_eqb, eqb-true}
use Rattle.tables.specs.Search.{find, one_of}
use Rattle.tables.proofs.Rule.{first, second, all}
use Rattle.tables.proofs.Search.{there, there_only, at_place, find_passes, none_passes}
use Rattle.tables.proofs.Keys.{Each, at_key, no_key}
use Rattle.ieee_order.proofs.Order.{finite_number, float_lt_le, float_refl}
use Rattle.encoder_bit_demand.specs.Snr.{SnrRow, table_c5, decibels, row_number, snr_of, or_nan, snr}

-- what a found ratio was found in
of_row : (o : Option SnrRow) (x : Float) → option_map (λ r. r.db) o ≡ Some x → (r : SnrRow) × (o ≡ Some r) × (r.db ≡ x)
of_row None x e = absurd (none-some x e)
of_row (Some r) x e = (r, refl, same_Some _ _ e)

-- what a test says of every row it says of the row of the steps
row_of : (p : SnrRow → Bool) (steps : ℕ) (x : Float) → T (all p table_c5) → snr_of steps ≡ Some x → T (p (record { steps = steps; db = x }))
unfolding snr_of
row_of p steps x t e =
    let r = of_row (find (λ r. eqb r.steps steps) table_c5) x e in
    let g = find_passes (λ r. eqb r.steps steps) p table_c5 r.0 t r.1 in
    subst₂ (λ (s : ℕ) (y : Float). T (p (record { steps = s; db = y }))) (eqb-true _ _ g.0) r.2 g.1

-- ---- the rule of the table: each ratio is a finite number, at least 0, and the ratios rise with the steps

ruled : SnrRow → SnrRow → Bool
ruled p q = finite p.db && (le (fin false 0 (pos 0)) p.db && (not (ltb p.steps q.steps) || lt p.db q.db))

computed : T (all (λ p. all (ruled p) table_c5) table_c5)
unfolding ruled table_c5 le lt
computed = tt

rule_of : (a b : ℕ) (x y : Float) → snr_of a ≡ Some x → snr_of b ≡ Some y → T (ruled (record { steps = a; db = x }) (record { steps = b; db = y }))
rule_of a b x y e f = row_of (ruled (record { steps = a; db = x })) b y (row_of (λ p. all (ruled p) table_c5) a x computed e) f

pub record SnrRule (x : Float) : Type 0 where
  pub number : is_nan x ≡ false
  pub finite : T (finite x)
  pub least : T (le (fin false 0 (pos 0)) x)

pub snr_rule : (steps : ℕ) (x : Float) → snr_of steps ≡ Some x → SnrRule x
unfolding ruled
snr_rule steps x e =
    let t = rule_of steps steps x x e e in
    record {
      number = finite_number x (first (finite x) _ t);
      finite = first (finite x) _ t;
      least = first (le (fin false 0 (pos 0)) x) _ (second (finite x) _ t);
    }

pub snr_rises : (a b : ℕ) (x y : Float) → snr_of a ≡ Some x → snr_of b ≡ Some y → a < b → T (lt x y)
unfolding ruled
snr_rises a b x y e f h =
    let t = second (le (fin false 0 (pos 0)) x) _ (second (finite x) _ (rule_of a b x y e f)) in
    rw (lt-ltb a b h) at t

pub snr_le : (a b : ℕ) (x y : Float) → snr_of a ≡ Some x → snr_of b ≡ Some y → a ≤ b → T (le x y)
snr_le a b x y e f h =
    ⊎_elim
    (λ s. subst (λ (y : Float). T (le x y)) (same_Some x y (sym e ∙ ap snr_of s ∙ f)) (float_refl x (snr_rule a x e).number))
    (λ l. float_lt_le x y (snr_rises a b x y e f l))
    (eq-or-lt_of_le h)

-- ---- what is not in the table

pub no_reach : (x : Float) → le x nan ≡ false
unfolding le
no_reach nan = refl
no_reach (inf s) = refl
no_reach (fin s m e) = refl

pub reached_by : (steps : ℕ) (smr : Float) (b : Bool) (o : Option Float) → o ≡ snr_of steps
    → (P : Float → Type 0) → MatchOption o (b ≡ false) P → ((x : Float) → P x → b ≡ le smr x) → b ≡ le smr (snr steps)
reached_by steps smr b o e P m found = go o m ∙ ap (λ (o : Option Float). le smr (or_nan o)) e
  where
    go : (o : Option Float) → MatchOption o (b ≡ false) P → b ≡ le smr (or_nan o)
    go None m = m ∙ sym (no_reach smr)
    go (Some x) m = found x m

-- the steps from 15 on, in whose digits there are only ones
abbrev pub long_keys : List ℕ
long_keys = 15 ∷ 31 ∷ 63 ∷ 127 ∷ 255 ∷ 511 ∷ 1023 ∷ 2047 ∷ 4095 ∷ 8191 ∷ 16383 ∷ 32767 ∷ 65535 ∷ []

abbrev pub keys : List ℕ
keys = 0 ∷ 3 ∷ 5 ∷ 7 ∷ 9 ∷ long_keys

keyed : SnrRow → Bool
keyed r = one_of keys r.steps

computed_keys : T (all keyed table_c5)
unfolding keyed one_of table_c5
computed_keys = tt

pub no_row : (steps : ℕ) → (steps ≡ 0 → ⊥) → (steps ≡ 3 → ⊥) → (steps ≡ 5 → ⊥) → (steps ≡ 7 → ⊥) → (steps ≡ 9 → ⊥)
    → (OneOf long_keys steps → ⊥) → None ≡ row_number steps
unfolding row_number keyed one_of
no_row steps a b c d e f =
    let h : one_of keys steps ≡ false =
    rw (ne_eqb steps 0 a, ne_eqb steps 3 b, ne_eqb steps 5 c, ne_eqb steps 7 d, ne_eqb steps 9 e) (no_key long_keys steps f) in
    sym (none_passes (λ r. eqb r.steps steps) keyed table_c5 computed_keys
    (λ r t. ne_eqb r.steps steps (λ e. subst T h (subst (λ (n : ℕ). T (one_of keys n)) e t))))

-- ---- the row of a number of steps, and what stands there

computed_rows : Each (λ n. Some (33 - count_leading_zeros 32 n) ≡ row_number n) long_keys
unfolding row_number count_leading_zeros
computed_rows = (refl, (refl, (refl, (refl, (refl, (refl, (refl, (refl, (refl, (refl, (refl, (refl, (refl, tt)))))))))))))

pub long_row : (steps : ℕ) → OneOf long_keys steps → Some (33 - count_leading_zeros 32 steps) ≡ row_number steps
long_row steps h = at_key (λ n. Some (33 - count_leading_zeros 32 n) ≡ row_number n) long_keys steps computed_rows h

column_at : (f : SnrRow → Float) (rs : List SnrRow) (i : ℕ) → option_map f (slice_get rs i) ≡ slice_get (map f rs) i
column_at f [] i = refl
column_at f (r ∷ rs) zero = refl
column_at f (r ∷ rs) (suc i) = column_at f rs i

module _ (steps row : ℕ) (at : Some row ≡ row_number steps) where
  pub row_in : row < 18
  unfolding row_number
  row_in =
      let found = at_place (λ r. eqb r.steps steps) table_c5 row (sym at) in
      (there_only table_c5 row found.0 found.0 found.1).0

  pub snr_there : (table : List Float) → table ≡ decibels → Some (get_or table row nan) ≡ snr_of steps
  unfolding row_number snr_of decibels
  snr_there table e =
      rw (e, ← at) (sym (column_at (λ r. r.db) table_c5 row ∙ there decibels row nan row_in))

pub snr_missing : (steps : ℕ) → None ≡ row_number steps → None ≡ snr_of steps
unfolding row_number snr_of
snr_missing steps at = rw (← at)
