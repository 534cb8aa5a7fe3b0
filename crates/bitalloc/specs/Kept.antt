-- How the code keeps the rows of the tables: each distinct row once, found by the range that a subband lies in.
-- Callers need none of this: the public contracts speak of the tables as printed. `KeptOnce` says what is proved of the kept rows, and the rest
-- serves private functions' contracts.
use Rattle.std.specs.Prelude.{ℕ, suc, ◌+◌, ◌*◌, ◌≤◌, ◌<◌, ◌≡◌, cond, List, [], ◌∷◌, map, leb, length, get_or, Some, slice_get}
use Rattle.bitalloc.specs.declared.BitAllocTable.{BitAllocTable}
use Rattle.bitalloc.specs.declared.BitAllocTable.TheVariants.{B2a, B2b, B2c, B2d, B1Lsf}
use Rattle.bitalloc.specs.Tables.{row_of, sblimit_of}

-- ---- the rows

-- The rows that are kept: the steps at each place. Two to a range, first that of Tables 3-B.2a and b, then that of the other tables.
unfoldable pub kept : List (List ℕ)
kept =
    (0 ∷ 3 ∷ 7 ∷ 15 ∷ 31 ∷ 63 ∷ 127 ∷ 255 ∷ 511 ∷ 1023 ∷ 2047 ∷ 4095 ∷ 8191 ∷ 16383 ∷ 32767 ∷ 65535 ∷ [])
    ∷ (0 ∷ 3 ∷ 5 ∷ 9 ∷ 15 ∷ 31 ∷ 63 ∷ 127 ∷ 255 ∷ 511 ∷ 1023 ∷ 2047 ∷ 4095 ∷ 8191 ∷ 16383 ∷ 32767 ∷ [])
    ∷ (0 ∷ 3 ∷ 5 ∷ 7 ∷ 9 ∷ 15 ∷ 31 ∷ 63 ∷ 127 ∷ 255 ∷ 511 ∷ 1023 ∷ 2047 ∷ 4095 ∷ 8191 ∷ 65535 ∷ [])
    ∷ (0 ∷ 3 ∷ 5 ∷ 7 ∷ 9 ∷ 15 ∷ 31 ∷ 63 ∷ 127 ∷ 255 ∷ 511 ∷ 1023 ∷ 2047 ∷ 4095 ∷ 8191 ∷ 16383 ∷ [])
    ∷ (0 ∷ 3 ∷ 5 ∷ 7 ∷ 9 ∷ 15 ∷ 31 ∷ 65535 ∷ [])
    ∷ (0 ∷ 3 ∷ 5 ∷ 9 ∷ 15 ∷ 31 ∷ 63 ∷ 127 ∷ [])
    ∷ (0 ∷ 3 ∷ 5 ∷ 65535 ∷ [])
    ∷ (0 ∷ 3 ∷ 5 ∷ 9 ∷ [])
    ∷ []

-- the kept row of a number, counted from 0; behind the last there is no place
unfoldable pub kept_row : ℕ → List ℕ
unfolding kept
kept_row number = get_or kept number []

-- ---- the ranges

-- Each table is cut into four ranges of subbands, 0 to 3 by rising subband, whose fields have 4, 4, 3 and 2 bits. A table that prints fewer has
-- empty ones.

-- the bits of the allocation fields in each range
abbrev pub nbals : List ℕ
nbals = 4 ∷ 4 ∷ 3 ∷ 2 ∷ []

-- the first subband behind each range; an empty range ends where it begins
abbrev pub ends_of : BitAllocTable → List ℕ
ends_of B2a = 3 ∷ 11 ∷ 23 ∷ 27 ∷ []
ends_of B2b = 3 ∷ 11 ∷ 23 ∷ 30 ∷ []
ends_of B2c = 2 ∷ 2 ∷ 8 ∷ 8 ∷ []
ends_of B2d = 2 ∷ 2 ∷ 12 ∷ 12 ∷ []
ends_of B1Lsf = 0 ∷ 4 ∷ 11 ∷ 30 ∷ []

-- as the code has the ends: a byte each of a word of 32 bits, the first in the lowest
abbrev pub word_of : List ℕ → ℕ
word_of [] = 0
word_of (e ∷ es) = e + 256 * word_of es

-- how many of the ends are at or below a subband
abbrev pub reached : ℕ → List ℕ → ℕ
reached sb [] = 0
reached sb (e ∷ es) = cond (leb e sb) (suc (reached sb es)) (reached sb es)

-- the range that a subband lies in: the number of ends at or below it; 4 where the table does not carry the subband
unfoldable pub range_number : BitAllocTable → ℕ → ℕ
range_number t sb = reached sb (ends_of t)

-- which of a range's two rows the table has
abbrev pub column_of : BitAllocTable → ℕ
column_of B2a = 0
column_of B2b = 0
column_of B2c = 1
column_of B2d = 1
column_of B1Lsf = 1

-- the number of a subband's row; where the table does not carry the subband it is 8 or 9, and no row has that number
unfoldable pub row_number : BitAllocTable → ℕ → ℕ
unfolding range_number
row_number t sb = 2 * range_number t sb + column_of t

-- ---- what is proved of the kept rows

-- a subband of a table
pub record Subband : Type 0 where
  pub table : BitAllocTable
  pub number : ℕ

abbrev subband : BitAllocTable → ℕ → Subband
subband table number = record { table = table; number = number }

-- for each kept row, in their order, a subband that has it
abbrev pub owners : List Subband
owners =
    subband B2a 0 ∷ subband B2c 0 ∷ subband B2a 3 ∷ subband B1Lsf 0 ∷ subband B2a 11 ∷ subband B2c 2 ∷ subband B2a 23 ∷ subband B1Lsf 11 ∷ []

-- The kept rows are the rows of the tables, each once: no two hold the same places; each is the row of the subband named above, which its table
-- carries; and the row of every subband is the kept row of its number.
pub record KeptOnce : Type 0 where
  pub apart : (i j : ℕ) → i < j → j < length kept → kept_row i ≡ kept_row j → ⊥
  pub owned : map (λ s. row_of s.table s.number) owners ≡ kept
  pub carried : (n : ℕ) (s : Subband) → slice_get owners n ≡ Some s → s.number < sblimit_of s.table
  pub found : (t : BitAllocTable) (sb : ℕ) → kept_row (row_number t sb) ≡ row_of t sb

-- ---- what the private functions promise

pub record RangeIs (t : BitAllocTable) (sb r : ℕ) : Type 0 where
  pub whole : r ≡ range_number t sb
  pub most : r ≤ 4

pub record NbalInRange (range r : ℕ) : Type 0 where
  pub whole : r ≡ get_or nbals range 0
  pub small : r ≤ 4

-- both rows of a range have the same number of places, so it is said of the first
pub record PlacesInRange (range r : ℕ) : Type 0 where
  pub whole : r ≡ length (kept_row (2 * range))
  pub most : r ≤ 16
