-- How a row is handed out, and where steps are looked for in it.
use Rattle.std.specs.Prelude.{ℕ, ◌+◌, ◌-◌, ◌≤◌, min, ◌≡◌, List, get_or}
use Rattle.std.specs.Int.Count.{count_leading_zeros}
use Rattle.tables.specs.Listed.{tabulate}
use Rattle.bitalloc.specs.declared.BitAllocTable.{BitAllocTable}
use Rattle.bitalloc.specs.Tables.{row_of}

-- The first of three places of a row at one of which steps stand, if anywhere: the middle one is the number of their binary digits, or the last but
-- one. For the contract of a private function alone.
abbrev pub first_of_three : ℕ → ℕ → ℕ
first_of_three places steps = min (32 - count_leading_zeros 32 steps) (places - 2) - 1

pub record FirstOfThreeIs (places steps r : ℕ) : Type 0 where
  pub whole : r ≡ first_of_three places steps
  pub within : r + 3 ≤ places

-- a row as sixteen numbers: the steps at its places, and zeros behind them
abbrev pub sixteen : List ℕ → List ℕ
sixteen row = tabulate 16 (λ p. get_or row p 0)

-- the sixteen numbers of a subband's row
unfoldable pub row_of16 : BitAllocTable → ℕ → List ℕ
unfolding row_of
row_of16 t sb = sixteen (row_of t sb)
