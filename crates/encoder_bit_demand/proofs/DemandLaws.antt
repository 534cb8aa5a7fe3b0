-- What `demand_bits` finds on its way is the definition's: the steps that a ratio needs, a field's bits, a subband's row, a field's demand, the answer.
use Rattle.std.specs.Prelude.{Result, Ok, Err}
use mathlib.Core.Path.{◌≡◌, refl, sym, ap, ap₂, ◌∙◌}
use mathlib.Core.Bool.{Bool, true, false, cond}
use mathlib.Core.List.{List, [], ◌∷◌}
use Prim.Native.Nat.{ℕ, ◌+◌, ◌-◌, ◌*◌, ◌≤◌, ◌<◌}
use borrow.Author.Count.{below_more}
use native.Mathlib.Omega.{arith}
use lib.ListN.{length, get_or, take, drop, length-drop}
use lib.Dec.{lit≤}
use Rattle.std.proofs.lemmas.List.{length-take}
use lib.Seq.{ext_get_or, length-take-le, get_or-take, get_or-drop}
use lib.Ieee.{Float, fin, le}
use lib.IntN.{pos}
use Rattle.tables.specs.Listed.{tabulate}
use Rattle.tables.proofs.Listed.{tabulated, length_tabulate}
use Rattle.ieee_order.specs.Order.{max_of}
use Rattle.bitalloc.specs.declared.BitAllocTable.{BitAllocTable}
use Rattle.bitalloc.specs.Tables.{row_of, sblimit_of}
use Rattle.bitalloc.specs.Storage.{row_of16}
use Rattle.bitalloc.proofs.RowLaws.{two_places, places_small}
use Rattle.quantization.specs.Classes.{sample_bits}
use Rattle.tables.proofs.Search.{find_found, find_missing}
use Rattle.header.specs.declared.FrameHeader.{FrameHeader}
use Rattle.layout.specs.declared.Layout.{Layout}
use Rattle.layout.specs.declared.AllocationField.{AllocationField}
use Rattle.encoder_bit_budget.specs.declared.FixedBitBudget.{FixedBitBudget}
use Rattle.encoder_bit_budget.specs.declared.BitAllocError.{BitAllocError}
use Rattle.encoder_bit_budget.proofs.BudgetLaws.{apart}
use Rattle.encoder_bit_budget.specs.Budget.{BudgetAnswer, plain, budget_in, budget_of, layout_in}
use Rattle.encoder_bit_demand.specs.Snr.{snr}
use Rattle.encoder_bit_demand.specs.Demand.{needed_steps, needed_bits, or_top, smr_at, smrs_of, largest_smr, layout_demand, demand_of, FirstStepIs, DemandIs, demand_by, demand_in}
use Rattle.encoder_bit_demand.specs.OnTheWay.{NeededIs, FieldDemandIs, LayoutDemandIs}

-- ---- the steps that a ratio needs, by a search along the first places of a row

-- no place above 0 and below `at` reaches the ratio
abbrev pub Passed : List ℕ → Float → ℕ → Type 0
Passed row smr at = (k : ℕ) → k < at → 1 ≤ k → le smr (snr (get_or row k 0)) ≡ false

module _ (row : List ℕ) (smr : Float) (two_places : 2 ≤ length row) where
  -- the places above 0
  rest_length : length (drop 1 row) ≡ length row - 1
  rest_length = length-drop 1 row

  rest_at : (k : ℕ) → get_or (drop 1 row) k 0 ≡ get_or row (k + 1) 0
  rest_at k = get_or-drop 1 row k 0 ∙ ap (λ (n : ℕ). get_or row n 0) (omega arith)

  unreached : (at : ℕ) → Passed row smr at → (k : ℕ) → k + 1 < at → le smr (snr (get_or (drop 1 row) k 0)) ≡ false
  unreached at b k h = ap (λ (n : ℕ). le smr (snr n)) (rest_at k) ∙ b (k + 1) h (omega arith)

  -- the first place that reaches it
  pub reached : (at : ℕ) → 1 ≤ at → at < length row → Passed row smr at → le smr (snr (get_or row at 0)) ≡ true
      → get_or row at 0 ≡ needed_steps row smr
  unfolding needed_steps
  reached at l h b e =
      let same : at - 1 + 1 ≡ at = omega arith in
      let v : get_or (drop 1 row) (at - 1) 0 ≡ get_or row at 0 = rest_at (at - 1) ∙ ap (λ (n : ℕ). get_or row n 0) same in
      sym (ap (or_top row)
      (find_found (λ n. le smr (snr n)) (drop 1 row) (at - 1) 0 (rw rest_length (omega arith))
      (λ k m. unreached at b k (omega arith)) (ap (λ (n : ℕ). le smr (snr n)) v ∙ e))
      ∙ v)

  -- the top place, whether it reaches the ratio or not
  pub top : Passed row smr (length row - 1) → get_or row (length row - 1) 0 ≡ needed_steps row smr
  unfolding needed_steps
  top b = go (le smr (snr (get_or row (length row - 1) 0))) refl
    where
      go : (t : Bool) → le smr (snr (get_or row (length row - 1) 0)) ≡ t → get_or row (length row - 1) 0 ≡ needed_steps row smr
      go true e = reached (length row - 1) (omega arith) (omega arith) b e
      go false e =
          sym (ap (or_top row)
          (find_missing (λ n. le smr (snr n)) (drop 1 row) 0
          (λ k m. let h = rw rest_length at m in
          unreached (length row)
          (λ k m l. below_more (λ k. 1 ≤ k → le smr (snr (get_or row k 0)) ≡ false) (length row - 1) b (λ l. e) k (omega arith) l) k (omega arith))))

-- what the loop reads, from place 1 to below the top place
abbrev pub between : List ℕ → List ℕ
between row = take (length row - 1 - 1) (drop 1 row)

between_length : (row : List ℕ) → length (between row) ≡ length row - 1 - 1
between_length row = let e = length-take (length row - 1 - 1) (drop 1 row) in let d = length-drop 1 row in omega arith

pub between_at : (row : List ℕ) (i : ℕ) → i < length (between row) → (i + 1 < length row) × (get_or (between row) i 0 ≡ get_or row (i + 1) 0)
between_at row i h =
    let l : i < length row - 1 - 1 = let e = between_length row in omega arith in (
      omega arith,
      get_or-take (length row - 1 - 1) (drop 1 row) i 0 l ∙ get_or-drop 1 row i 0 ∙ ap (λ (n : ℕ). get_or row n 0) (omega arith),
    )

pub between_end : (row : List ℕ) (i : ℕ) → length (between row) ≤ i → length row - 1 ≤ i + 1
between_end row i h = let e = between_length row in omega arith

-- ---- the bits of a field

pub nothing : (row : List ℕ) (smr : Float) (first : ℕ) → le smr (fin false 0 (pos 0)) ≡ true → 0 ≡ needed_bits row smr first
unfolding needed_bits
nothing row smr first e = rw e

pub something : (row : List ℕ) (smr : Float) (first n bits : ℕ) → le smr (fin false 0 (pos 0)) ≡ false → n ≡ needed_steps row smr → bits ≡ sample_bits n
    → bits + first ≡ needed_bits row smr first
unfolding needed_bits
something row smr first n bits e p q = rw (e, q, p)

-- ---- a subband's row as the code reads it: as many of sixteen numbers as it has places

pub record RowRead (t : BitAllocTable) (sb places : ℕ) (row : List ℕ) : Type 0 where
  pub taken : take places row ≡ row_of t sb
  pub least : 2 ≤ length (take places row)
  pub most : places ≤ length row

taken_back : (xs : List ℕ) → length xs ≤ 16 → take (length xs) (tabulate 16 (λ p. get_or xs p 0)) ≡ xs
taken_back xs l =
    let row = tabulate 16 (λ p. get_or xs p 0) in
    let e : length (take (length xs) row) ≡ length xs = length-take-le (length xs) row (rw (length_tabulate 16 (λ p. get_or xs p 0)) l) in
    ext_get_or 0 (take (length xs) row) xs e
    (λ k h. let m : k < length xs = rw e at h in
    get_or-take (length xs) row k 0 m ∙ tabulated 16 (λ p. get_or xs p 0) k 0 (omega arith))

pub row_read : (t : BitAllocTable) (sb places : ℕ) (row : List ℕ) → sb < sblimit_of t → places ≡ length (row_of t sb) → row ≡ row_of16 t sb
    → RowRead t sb places row
unfolding row_of16
row_read t sb places row h p e =
    let taken : take places row ≡ row_of t sb = ap₂ (λ (m : ℕ) (row : List ℕ). take m row) p e ∙ taken_back (row_of t sb) (places_small t sb) in
    record {
      taken = taken;
      least = rw taken (two_places t sb h);
      most = rw (e, p, length_tabulate 16 (λ p. get_or (row_of t sb) p 0)) (places_small t sb);
    }

-- ---- a field

pub larger : (smr : List (List Float)) (x : AllocationField) (r : Float) → x.both ≡ true → r ≡ max_of (smr_at smr 0 x.subband) (smr_at smr 1 x.subband)
    → r ≡ largest_smr (smrs_of smr x)
larger smr x r e m = rw e m

pub first_step_lem : (x : AllocationField) (b : Bool) (r : ℕ) → x.both ≡ b → r ≡ cond b 40 20 → FirstStepIs x r
first_step_lem x b r e p = record { whole = rw e (p ∙ go b); most = rw p (small b) }
  where
    go : (b : Bool) → cond b 40 20 ≡ 20 * length (cond b (0 ∷ 1 ∷ []) (x.channel ∷ []))
    go true = refl
    go false = refl

    small : (b : Bool) → cond b 40 20 ≤ 40
    small true = lit≤ tt
    small false = lit≤ tt

pub field_demand_lem : (t : BitAllocTable) (smr : List (List Float)) (x : AllocationField) (first r : ℕ) (row : List ℕ) (s : Float)
    → row ≡ row_of t x.subband → s ≡ largest_smr (smrs_of smr x) → FirstStepIs x first → NeededIs row s first r → FieldDemandIs t smr x r
field_demand_lem t smr x first r row s e m f n = record {
  whole = n.whole ∙ (λ i. needed_bits (e i) (m i) (f.whole i));
  most = let a = n.most in let b = f.most in omega arith;
}

-- ---- the answers

-- what is demanded under a budget's answer
pub record DemandInIs (a : BudgetAnswer) (smr : List (List Float)) (r : Result ℕ BitAllocError) : Type 0 where
  pub whole : demand_in r ≡ demand_by smr a
  pub small : (demand_in r).bits ≤ 60 * 616

pub refused_in : (smr : List (List Float)) (e : BitAllocError) → DemandInIs (budget_in (Err e)) smr (Err e)
refused_in smr e = record { whole = rw (apart e); small = lit≤ tt }

pub accepted_in : (smr : List (List Float)) (b : FixedBitBudget) (l : Layout) (bits : ℕ) → l ≡ layout_in b → LayoutDemandIs l smr bits
    → DemandInIs (budget_in (Ok b)) smr (Ok bits)
accepted_in smr b l bits e d = record {
  whole = ap (λ (n : ℕ). record { answer = 0; bits = n }) (d.whole ∙ ap (λ (l : Layout). layout_demand l smr) e);
  small = d.most;
}

-- the demand under the budget of a header
pub demand_is : (h : FrameHeader) (smr : List (List Float)) (a : BudgetAnswer) (r : Result ℕ BitAllocError) → a ≡ budget_of (plain h 0) → DemandInIs a smr r
    → DemandIs h smr r
unfolding demand_of
demand_is h smr a r p d = record { whole = d.whole ∙ ap (demand_by smr) p; small = d.small }

module _ (h : FrameHeader) (smr : List (List Float)) where
  -- a refused budget's answer is that of the demand
  pub demand_refused : (e : BitAllocError) → budget_in (Err e) ≡ budget_of (plain h 0) → DemandIs h smr (Err e)
  demand_refused e p = demand_is h smr (budget_in (Err e)) (Err e) p (refused_in smr e)

  -- and what is demanded under an accepted one
  pub demand_met : (b : FixedBitBudget) (l : Layout) (bits : ℕ) → budget_in (Ok b) ≡ budget_of (plain h 0) → l ≡ layout_in b
      → LayoutDemandIs l smr bits → DemandIs h smr (Ok bits)
  demand_met b l bits p e d = demand_is h smr (budget_in (Ok b)) (Ok bits) p (accepted_in smr b l bits e d)
