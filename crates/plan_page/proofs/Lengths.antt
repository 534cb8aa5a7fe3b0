-- No line is longer than what a line holds.
use mathlib.Core.Bool.{Bool, true, false, cond}
use mathlib.Core.List.{List}
use Prim.Native.Nat.{ℕ, zero, suc, ◌+◌, ◌≤◌}
use native.Mathlib.Omega.{arith}
use lib.Dec.{eqb}
use lib.Ieee.{Float}
use lib.ListN.{length, length-append}
use Rattle.layout.specs.declared.Layout.{Layout}
use Rattle.layout.specs.Layout.{channel_count}
use Rattle.allocation_run.specs.Entries.{slot_mnr}
use Rattle.text_line.specs.Line.{aligned}
use Rattle.text_line.specs.Number.{number_text}
use Rattle.text_line.specs.Decibels.{decibels_text}
use Rattle.text_line.proofs.LineLaws.{column_length}
use Rattle.text_line.proofs.NumberLaws.{few_digits}
use Rattle.text_line.proofs.DecibelsLaws.{short_decibels}
use Rattle.plan_page.specs.Rows.{joined, column_heads, heading_line, slot_columns, channel_columns, subband_bits, subband_line}

number : (n : ℕ) → length (number_text n) ≤ 20
number n = few_digits 20 n

in_column : (width n : ℕ) → length (aligned width (number_text n)) ≤ width + 20
in_column width n = omega (arith, column_length width (number_text n), number n)

decibels_in_column : (width : ℕ) (x : Float) → length (aligned width (decibels_text x)) ≤ width + 24
decibels_in_column width x = omega (arith, column_length width (decibels_text x), short_decibels x)

-- ---- the rows

-- of two channels at most
groups : (f : ℕ → List ℕ) → ((ch : ℕ) → length (f ch) ≤ 97) → (n : ℕ) → n ≤ 2 → length (joined f n) ≤ 194
groups f h zero b = omega arith
groups f h (suc zero) b = simp length-append (omega (arith, h 0))
groups f h (suc (suc zero)) b = simp length-append (omega (arith, h 0, h 1))
groups f h (suc (suc (suc n))) b = absurd (omega arith)

pub heading_length : (channels : ℕ) → channels ≤ 2 → length (heading_line channels) ≤ 256
unfolding heading_line
heading_length channels b = simp length-append (omega (arith, groups (λ ch. column_heads) (λ ch. omega arith) channels b))

columns : (smr : Float) (steps : ℕ) → length (slot_columns smr steps) ≤ 97
unfolding slot_columns
columns smr steps =
    simp length-append (omega (arith, decibels_in_column 10 smr, in_column 7 steps, decibels_in_column 10 (slot_mnr steps smr)))

pub channels_small : (l : Layout) → channel_count l ≤ 2
channels_small l = go (eqb l.channels 1)
  where
    go : (b : Bool) → cond b 1 2 ≤ 2
    go true = omega arith
    go false = omega arith

pub subband_length : (l : Layout) (steps : List ℕ) (smr : List (List Float)) (sb : ℕ) → length (subband_line l steps smr sb) ≤ 256
unfolding subband_line
subband_length l steps smr sb =
    simp length-append
    (omega (arith, in_column 7 sb, in_column 6 (subband_bits l steps sb), groups (channel_columns steps smr sb) (λ ch. columns _ _) (channel_count l) (channels_small l)))
