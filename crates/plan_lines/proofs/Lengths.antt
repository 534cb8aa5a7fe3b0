-- No line is longer than what a line holds.
use Rattle.std.specs.Prelude.{Option, None, Some, option_map}
use mathlib.Core.Bool.{Bool, true, false, cond}
use mathlib.Core.List.{List, [], ◌∷◌, ◌++◌}
use Prim.Native.Nat.{ℕ, suc, ◌+◌, ◌-◌, ◌/◌, ◌≤◌}
use native.Mathlib.Omega.{arith}
use lib.Dec.{leb, eqb, lit≤}
use lib.ListN.{length, length-append}
use Rattle.tables.specs.Search.{place, entry_at, find}
use Rattle.header.specs.declared.FrameHeader.{FrameHeader}
use Rattle.header.specs.Header.{free_format}
use Rattle.ladder.specs.Ladder.{ladder, lsf_ladder, ladder_of}
use Rattle.bitalloc.specs.declared.BitAllocTable.{BitAllocTable}
use Rattle.bitalloc.specs.declared.BitAllocTable.TheVariants.{B2a, B2b, B2c, B2d, B1Lsf}
use Rattle.encoder_bit_budget.specs.declared.FixedBitBudget.{FixedBitBudget}
use Rattle.plan_text.specs.Quoted.{text}
use Rattle.text_line.specs.Line.{aligned}
use Rattle.text_line.specs.Number.{digits_of, number_text}
use Rattle.text_line.proofs.LineLaws.{column_length}
use Rattle.text_line.proofs.NumberLaws.{few_digits}
use Rattle.plan_lines.specs.declared.lines.Label.{Label}
use Rattle.plan_lines.specs.declared.lines.Label.TheVariants.{Fixed, Offered, Demand, Charged, Left, Used}
use Rattle.plan_lines.specs.Lines.{label_text, table_text, limits_text, frame_line, free_line, bits_line, balance_text, demand_line}
use Rattle.plan_lines.specs.Refusal.{off_ladder_text, no_table_text, too_small_text, advice_text, sentences, said, reason_text, refusal_line}

number : (n : ℕ) → length (number_text n) ≤ 20
number n = few_digits 20 n

in_column : (width n : ℕ) → length (aligned width (number_text n)) ≤ width + 20
in_column width n = omega (arith, column_length width (number_text n), number n)

table : (t : BitAllocTable) → length (table_text t) ≤ 3
table B2a = omega arith
table B2b = omega arith
table B2c = omega arith
table B2d = omega arith
table B1Lsf = omega arith

pub frame_length : (b : FixedBitBudget) → length (frame_line b) ≤ 256
unfolding frame_line limits_text
frame_length b =
    simp length-append (omega (arith, in_column 6 (b.cb / 8), table b.table, number b.sblimit, number b.bound))

pub free_length : (b : FixedBitBudget) → length (free_line b) ≤ 256
unfolding free_line limits_text
free_length b = simp length-append (omega (arith, table b.table, number b.sblimit, number b.bound))

bits : (label : List ℕ) (n : ℕ) → length label ≤ 8 → length (bits_line label n) ≤ 39
unfolding bits_line
bits label n h = simp length-append (omega (arith, in_column 6 n))

pub bits_length : (label : List ℕ) (n : ℕ) → length label ≤ 8 → length (bits_line label n) ≤ 256
bits_length label n h = omega (arith, bits label n h)

pub label_length : (l : Label) → length (label_text l) ≤ 8
label_length Fixed = omega arith
label_length Offered = omega arith
label_length Demand = omega arith
label_length Charged = omega arith
label_length Left = omega arith
label_length Used = omega arith

balance : (demand offered : ℕ) → length (balance_text demand offered) ≤ 36
unfolding balance_text
balance demand offered = go (leb demand offered)
  where
    go : (b : Bool) → length (cond b (text ", enough") (text ", short by " ++ number_text (demand - offered) ++ text " bits")) ≤ 36
    go true = omega arith
    go false = simp length-append (omega (arith, number (demand - offered)))

pub demand_length : (demand offered : ℕ) → length (demand_line demand offered) ≤ 256
unfolding demand_line
demand_length demand offered =
    simp length-append (let h : length (text "demand  ") ≤ 8 = omega arith in omega (arith, bits (text "demand  ") demand h, balance demand offered))

-- ---- the refusals

advice : (free : Bool) → length (advice_text free) ≤ 80
advice true = omega arith
advice false = omega arith

off_ladder : (lsf : Bool) → length (off_ladder_text lsf) ≤ 226
unfolding off_ladder_text ladder_of ladder lsf_ladder digits_of
off_ladder true = lit≤ tt
off_ladder false = lit≤ tt

-- where every sentence is short, so is the one found
Short : List (ℕ × List ℕ) → Type 0
Short [] = Unit {0}
Short (x ∷ xs) = (length x.1 ≤ 226) × Short xs

found : (f : ℕ × List ℕ → Bool) (xs : List (ℕ × List ℕ)) → Short xs → length (said (find f xs)) ≤ 226
unfolding Short
found f [] s = omega arith
found f (x ∷ xs) s = go (f x) (place f xs) (found f xs s.1)
  where
    go : (b : Bool) (p : Option ℕ) → length (said (entry_at xs p)) ≤ 226
        → length (said (entry_at (x ∷ xs) (cond b (Some 0) (option_map suc p)))) ≤ 226
    go true p h = s.0
    go false None h = h
    go false (Some i) h = h

reason : (h : FrameHeader) (n cb fixed banc : ℕ) → length (reason_text h n cb fixed banc) ≤ 226
unfolding Short no_table_text too_small_text
reason h n cb fixed banc =
    let small : length (too_small_text cb fixed banc ++ advice_text (free_format h)) ≤ 226 =
    simp length-append (omega (arith, number cb, number fixed, number banc, advice (free_format h))) in
    found (λ x. eqb n x.0) (sentences h cb fixed banc) (off_ladder h.lsf, (omega arith, (omega arith, (omega arith, (small, tt)))))

pub refusal_length : (h : FrameHeader) (n cb fixed banc : ℕ) → length (refusal_line h n cb fixed banc) ≤ 256
unfolding refusal_line
refusal_length h n cb fixed banc = simp length-append (omega (arith, number n, reason h n cb fixed banc))
