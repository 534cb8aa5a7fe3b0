-- What the code computes for one field and one place is what the definitions have there, and the tables that it lays out are the rules.
use Rattle.std.specs.Prelude.{Option, None, Some, MatchOption}
use mathlib.Core.Path.{◌≡◌, sym, ap, ap₂, ◌∙◌, subst}
use mathlib.Core.List.{List, []}
use Prim.Native.Nat.{ℕ, ◌+◌, ◌-◌, ◌*◌, ◌≤◌, ◌<◌}
use native.Mathlib.Nat.{not-suc-le-zero}
use native.Mathlib.Decide.{dec_lt, ℕ_discrete}
use native.Mathlib.Omega.{arith}
use lib.Dec.{lit≤}
use lib.Ieee.{Float, nan, binary64, sub}
use lib.ListN.{length, get_or, set, length-set, get_or-eq_default}
use lib.Seq.{get_or-set_same, get_or-set_other}
use borrow.Author.Tests.{ne_eqb}
use Rattle.tables.proofs.Listed.{tabulated, length_tabulate, filled}
use Rattle.bitalloc.specs.Tables.{row_of}
use Rattle.bitalloc.specs.Storage.{row_of16}
use Rattle.quantization.specs.Classes.{SampleBitsAre}
use Rattle.bitalloc.proofs.RowLaws.{row_number_lem, places_small}
use Rattle.layout.specs.declared.Layout.{Layout}
use Rattle.layout.specs.declared.AllocationField.{AllocationField}
use Rattle.layout.specs.Layout.{fields_of, field_in, FieldIs}
use Rattle.layout.proofs.FieldLaws.{few}
use Rattle.encoder_bit_demand.specs.Snr.{snr_of, or_nan}
use Rattle.encoder_bit_demand.specs.Demand.{smrs_of}
use Rattle.allocation_run.specs.Entries.{Entry, slot_mnr, mnr_of, mnr_at, charge, charge_at, entry_in, entry_of, entries_of, ChargeIs}
use Rattle.allocation_run.specs.Laid.{LaidOut, TopsTo}

-- ---- a slot, and a field

-- of steps that Table C.5 lacks nothing is known
pub slot_mapped : (steps : ℕ) (smr r : Float) (o : Option Float) → (steps ≡ 0 → ⊥) → o ≡ snr_of steps
    → (P : Float → Type 0) → MatchOption o (r ≡ nan) P → ((x : Float) → P x → r ≡ sub binary64 x smr) → r ≡ slot_mnr steps smr
unfolding sub
slot_mapped steps smr r o z e P m found = rw (ne_eqb steps 0 z) (go o m ∙ ap (λ (o : Option Float). sub binary64 (or_nan o) smr) e)
  where
    go : (o : Option Float) → MatchOption o (r ≡ nan) P → r ≡ sub binary64 (or_nan o) smr
    go None m = m
    go (Some x) m = found x m

pub some_charge : (steps first bits : ℕ) → (steps ≡ 0 → ⊥) → SampleBitsAre steps bits → ChargeIs steps first (bits + first)
some_charge steps first bits z b = record { whole = rw (ne_eqb steps 0 z) (ap (λ (n : ℕ). n + first) b.whole); most = let m = b.small in omega arith }

-- ---- the entries of a layout

module _ (l : Layout) (smr : List (List Float)) (costs : List ℕ) where
  pub entries_count : length (entries_of l smr costs) ≡ length (fields_of l)
  unfolding entries_of
  entries_count = length_tabulate (length (fields_of l)) _

  pub entry_at : (f : ℕ) → f < length (fields_of l) → entry_in (entries_of l smr costs) f ≡ entry_of l.table smr (field_in (fields_of l) f) (get_or costs f 0)
  unfolding entries_of
  entry_at f h = tabulated (length (fields_of l)) (λ f. entry_of l.table smr (field_in (fields_of l) f) (get_or costs f 0)) f _ h

  -- a row has sixteen places at most
  pub room : (f : ℕ) → length (entry_in (entries_of l smr costs) f).row ≤ 16
  room f = go (dec_lt f (length (fields_of l)))
    where
      go : Dec (f < length (fields_of l)) → length (entry_in (entries_of l smr costs) f).row ≤ 16
      go (yes h) = rw (entry_at f h) (places_small l.table (field_in (fields_of l) f).subband)
      go (no h) =
          rw (get_or-eq_default (entries_of l smr costs) (record { row = []; smr = []; first = 0 }) {n = f} (rw entries_count (omega arith))) (lit≤ tt)

-- ---- the tables, entry by entry

pub none_laid : (es : List Entry) (mnrs : List Float) (charges : List ℕ) → length mnrs ≡ 1024 → length charges ≡ 1024 → LaidOut es 0 mnrs charges
none_laid es mnrs charges l w =
    record { long = l; wide = w; mnr = λ f p s h. absurd (not-suc-le-zero h); charge = λ f p s h. absurd (not-suc-le-zero h) }

-- one more entry is written: the others stay
one_more : {A : Type 0} (v : ℕ → ℕ → A) (room : ℕ → ℕ) (xs : List A) (f p : ℕ) (a d : A) → ((g : ℕ) → room g ≤ 16) → p < 16 → 16 * f + p < length xs → a ≡ v f p
    → ((g q : ℕ) → q < room g → 16 * g + q < 16 * f + p → get_or xs (16 * g + q) d ≡ v g q)
    → (g q : ℕ) → q < room g → 16 * g + q < 16 * f + (p + 1) → get_or (set xs (16 * f + p) a) (16 * g + q) d ≡ v g q
one_more v room xs f p a d small s h e b g q r l = go (ℕ_discrete (16 * g + q) (16 * f + p))
  where
    go : Dec (16 * g + q ≡ 16 * f + p) → get_or (set xs (16 * f + p) a) (16 * g + q) d ≡ v g q
    go (yes i) =
        let n = small g in
        let i₁ : g ≡ f = omega arith in
        let i₂ : q ≡ p = omega arith in
        ap (λ (k : ℕ). get_or (set xs (16 * f + p) a) k d) i ∙ get_or-set_same xs (16 * f + p) a d h ∙ e ∙ ap₂ v (sym i₁) (sym i₂)
    go (no i) = get_or-set_other xs (16 * f + p) (16 * g + q) a d (λ j. i j) ∙ b g q r (omega arith)

module _ (es : List Entry) (room : (g : ℕ) → length (entry_in es g).row ≤ 16) (f : ℕ) (mnrs : List Float) (charges : List ℕ) where
  pub field_begun : LaidOut es (16 * f) mnrs charges → LaidOut es (16 * f + 0) mnrs charges
  field_begun = subst (λ (n : ℕ). LaidOut es n mnrs charges) (let z : 16 * f ≡ 16 * f + 0 = omega arith in z)

  pub one_more_laid : (p : ℕ) (r : Float) (n : ℕ) → LaidOut es (16 * f + p) mnrs charges → p < 16 → f < 64
      → r ≡ mnr_at (entry_in es f) p → n ≡ charge_at (entry_in es f) p
      → LaidOut es (16 * f + (p + 1)) (set mnrs (16 * f + p) r) (set charges (16 * f + p) n)
  one_more_laid p r n laid s h a b = record {
    long = simp length-set laid.long;
    wide = simp length-set laid.wide;
    mnr = one_more (λ g q. mnr_at (entry_in es g) q) (λ g. length (entry_in es g).row) mnrs f p r nan room s (rw laid.long (omega arith)) a laid.mnr;
    charge = one_more (λ g q. charge_at (entry_in es g) q) (λ g. length (entry_in es g).row) charges f p n 0 room s (rw laid.wide (omega arith)) b laid.charge;
  }

  -- behind a field's last place nothing is asked for
  pub field_laid : (p : ℕ) → LaidOut es (16 * f + p) mnrs charges → length (entry_in es f).row ≤ p → LaidOut es (16 * (f + 1)) mnrs charges
  field_laid p laid l = record {
    long = laid.long;
    wide = laid.wide;
    mnr = λ g q s k. laid.mnr g q s (inside g q s k);
    charge = λ g q s k. laid.charge g q s (inside g q s k);
  }
    where
      inside : (g q : ℕ) → q < length (entry_in es g).row → 16 * g + q < 16 * (f + 1) → 16 * g + q < 16 * f + p
      inside g q s k = go (ℕ_discrete g f)
        where
          go : Dec (g ≡ f) → 16 * g + q < 16 * f + p
          go (yes e) = let r : q < length (entry_in es f).row = subst (λ (g : ℕ). q < length (entry_in es g).row) e s in omega arith
          go (no e) = let n = room g in omega arith

-- ---- what is written for the places of a field

-- what is known of a field when its places are begun
pub record Begun (l : Layout) (costs : List ℕ) (f : ℕ) (x : AllocationField) (first : ℕ) (row : List ℕ) : Type 0 where
  pub there : f < length (fields_of l)
  pub is : FieldIs l f x
  pub cost : first ≡ get_or costs f 0
  pub read : row ≡ row_of16 l.table x.subband

module _ (l : Layout) (smr : List (List Float)) (costs : List ℕ) (f : ℕ) (x : AllocationField) (first : ℕ) (row : List ℕ)
    (begun : Begun l costs f x first row) (mnrs : List Float) (charges : List ℕ) where
  abbrev es : List Entry
  es = entries_of l smr costs

  at_field : entry_in es f ≡ entry_of l.table smr x first
  at_field = entry_at l smr costs f begun.there ∙ ap₂ (entry_of l.table smr) (sym begun.is.whole) (sym begun.cost)

  pub begin : LaidOut es (16 * f) mnrs charges → LaidOut es (16 * f + 0) mnrs charges
  begin = field_begun es (room l smr costs) f mnrs charges

  pub go_on : (p : ℕ) (r : Float) (n : ℕ) → LaidOut es (16 * f + p) mnrs charges → p < 16
      → r ≡ mnr_of (smrs_of smr x) (get_or row p 0) → n ≡ charge (get_or row p 0) first
      → LaidOut es (16 * f + (p + 1)) (set mnrs (16 * f + p) r) (set charges (16 * f + p) n)
  go_on p r n laid s a b =
      let steps = row_number_lem l.table x.subband p row begun.read s in
      let h = begun.there in
      let k = few l in
      one_more_laid es (room l smr costs) f mnrs charges p r n laid s (omega arith)
      (a ∙ ap (mnr_of (smrs_of smr x)) steps ∙ ap (λ (e : Entry). mnr_at e p) (sym at_field))
      (b ∙ ap (λ (m : ℕ). charge m first) steps ∙ ap (λ (e : Entry). charge_at e p) (sym at_field))

  pub end : (p : ℕ) → LaidOut es (16 * f + p) mnrs charges → length (row_of l.table x.subband) ≤ p → LaidOut es (16 * (f + 1)) mnrs charges
  end p laid h = field_laid es (room l smr costs) f mnrs charges p laid (subst (λ (e : Entry). length e.row ≤ p) (sym at_field) h)

-- ---- the top places

pub topped : (l : Layout) (tops tops₀ : List ℕ) (n top : ℕ) → tops ≡ set tops₀ n top → TopsTo l n tops₀ → n < length tops₀
    → {x : AllocationField} → x ≡ field_in (fields_of l) n → (places : ℕ) → places ≡ length (row_of l.table x.subband) → top ≡ places - 1 → TopsTo l (n + 1) tops
unfolding TopsTo
topped l tops tops₀ n top e b h i places q t =
    rw e (filled (λ k v. v ≡ length (row_of l.table (field_in (fields_of l) k).subband) - 1) tops₀ n top 0 h b
    (t ∙ ap (λ (m : ℕ). m - 1) q ∙ ap (λ (x : AllocationField). length (row_of l.table x.subband) - 1) i))
