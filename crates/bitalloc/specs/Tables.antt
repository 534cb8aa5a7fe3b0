-- The possible quantizations per subband: Tables 3-B.2a to 3-B.2d of ISO/IEC 11172-3 and Table B.1 of ISO/IEC 13818-3.
use Rattle.std.specs.Prelude.{ℕ, ◌^◌, ◌≤◌, ◌<◌, ◌≡◌, Bool, ◌&&◌, List, [], ◌∷◌, leb, eqb, length, get_or, Option, None, Some, slice_get, Result, ok_or}
use Rattle.tables.specs.Search.{place, find}
use Rattle.bitalloc.specs.declared.BitAllocTable.{BitAllocTable}
use Rattle.bitalloc.specs.declared.UnknownTable.{UnknownTable}
use Rattle.bitalloc.specs.declared.BitAllocTable.TheVariants.{B2a, B2b, B2c, B2d, B1Lsf}

-- the tables in the order of their numbers, 0 to 4
abbrev pub table_numbered : ℕ → Option BitAllocTable
table_numbered number = slice_get (B2a ∷ B2b ∷ B2c ∷ B2d ∷ B1Lsf ∷ []) number

-- a number is read: it names a table, or is handed back
abbrev pub TableNamed : ℕ → Result BitAllocTable UnknownTable → Type 0
TableNamed number r = r ≡ ok_or (table_numbered number) (record { 0 = number })

abbrev pub table_number : BitAllocTable → ℕ
table_number B2a = 0
table_number B2b = 1
table_number B2c = 2
table_number B2d = 3
table_number B1Lsf = 4

-- What a table prints alike for a range of subbands: the bits of their allocation field, and the steps that its values 1, 2, .. stand for.
-- The value 0, printed '-', stands for no allocation.
pub record Range : Type 0 where
  pub first : ℕ
  pub last : ℕ
  pub nbal : ℕ
  pub steps : List ℕ

abbrev subbands : ℕ → ℕ → ℕ → List ℕ → Range
subbands first last nbal steps = record { first = first; last = last; nbal = nbal; steps = steps }

unfoldable pub ranges : BitAllocTable → List Range
ranges B2a =
    subbands 0 2 4 (3 ∷ 7 ∷ 15 ∷ 31 ∷ 63 ∷ 127 ∷ 255 ∷ 511 ∷ 1023 ∷ 2047 ∷ 4095 ∷ 8191 ∷ 16383 ∷ 32767 ∷ 65535 ∷ [])
    ∷ subbands 3 10 4 (3 ∷ 5 ∷ 7 ∷ 9 ∷ 15 ∷ 31 ∷ 63 ∷ 127 ∷ 255 ∷ 511 ∷ 1023 ∷ 2047 ∷ 4095 ∷ 8191 ∷ 65535 ∷ [])
    ∷ subbands 11 22 3 (3 ∷ 5 ∷ 7 ∷ 9 ∷ 15 ∷ 31 ∷ 65535 ∷ [])
    ∷ subbands 23 26 2 (3 ∷ 5 ∷ 65535 ∷ [])
    ∷ []
ranges B2b =
    subbands 0 2 4 (3 ∷ 7 ∷ 15 ∷ 31 ∷ 63 ∷ 127 ∷ 255 ∷ 511 ∷ 1023 ∷ 2047 ∷ 4095 ∷ 8191 ∷ 16383 ∷ 32767 ∷ 65535 ∷ [])
    ∷ subbands 3 10 4 (3 ∷ 5 ∷ 7 ∷ 9 ∷ 15 ∷ 31 ∷ 63 ∷ 127 ∷ 255 ∷ 511 ∷ 1023 ∷ 2047 ∷ 4095 ∷ 8191 ∷ 65535 ∷ [])
    ∷ subbands 11 22 3 (3 ∷ 5 ∷ 7 ∷ 9 ∷ 15 ∷ 31 ∷ 65535 ∷ [])
    ∷ subbands 23 29 2 (3 ∷ 5 ∷ 65535 ∷ [])
    ∷ []
ranges B2c =
    subbands 0 1 4 (3 ∷ 5 ∷ 9 ∷ 15 ∷ 31 ∷ 63 ∷ 127 ∷ 255 ∷ 511 ∷ 1023 ∷ 2047 ∷ 4095 ∷ 8191 ∷ 16383 ∷ 32767 ∷ [])
    ∷ subbands 2 7 3 (3 ∷ 5 ∷ 9 ∷ 15 ∷ 31 ∷ 63 ∷ 127 ∷ [])
    ∷ []
ranges B2d =
    subbands 0 1 4 (3 ∷ 5 ∷ 9 ∷ 15 ∷ 31 ∷ 63 ∷ 127 ∷ 255 ∷ 511 ∷ 1023 ∷ 2047 ∷ 4095 ∷ 8191 ∷ 16383 ∷ 32767 ∷ [])
    ∷ subbands 2 11 3 (3 ∷ 5 ∷ 9 ∷ 15 ∷ 31 ∷ 63 ∷ 127 ∷ [])
    ∷ []
ranges B1Lsf =
    subbands 0 3 4 (3 ∷ 5 ∷ 7 ∷ 9 ∷ 15 ∷ 31 ∷ 63 ∷ 127 ∷ 255 ∷ 511 ∷ 1023 ∷ 2047 ∷ 4095 ∷ 8191 ∷ 16383 ∷ [])
    ∷ subbands 4 10 3 (3 ∷ 5 ∷ 9 ∷ 15 ∷ 31 ∷ 63 ∷ 127 ∷ [])
    ∷ subbands 11 29 2 (3 ∷ 5 ∷ 9 ∷ [])
    ∷ []

-- the number of subbands carried, as printed below each table
abbrev pub sblimit_of : BitAllocTable → ℕ
sblimit_of B2a = 27
sblimit_of B2b = 30
sblimit_of B2c = 8
sblimit_of B2d = 12
sblimit_of B1Lsf = 30

-- the range that a subband lies in
abbrev pub holds : ℕ → Range → Bool
holds sb g = leb g.first sb && leb sb g.last

unfoldable pub range_of : BitAllocTable → ℕ → Option Range
unfolding ranges
range_of t sb = find (holds sb) (ranges t)

-- the bits of a subband's allocation field; 0 outside the table
abbrev pub width_in : Option Range → ℕ
width_in None = 0
width_in (Some g) = g.nbal

unfoldable pub nbal_of : BitAllocTable → ℕ → ℕ
unfolding range_of
nbal_of t sb = width_in (range_of t sb)

-- A subband's row: the steps at each value of its allocation field. A place is an index into it. Outside the table there is no place.
abbrev pub row_in : Option Range → List ℕ
row_in None = []
row_in (Some g) = 0 ∷ g.steps

unfoldable pub row_of : BitAllocTable → ℕ → List ℕ
unfolding range_of
row_of t sb = row_in (range_of t sb)

-- the steps at a place of the row
unfoldable pub steps_at : BitAllocTable → ℕ → ℕ → Option ℕ
unfolding row_of
steps_at t sb index = slice_get (row_of t sb) index

-- the place of the row that has the steps
unfoldable pub index_of : BitAllocTable → ℕ → ℕ → Option ℕ
unfolding row_of
index_of t sb steps = place (λ n. eqb n steps) (row_of t sb)

-- ---- the rule of every row

-- a field of 2 to 4 bits, 2 ^ nbal places; place 0 has no steps, and the others rise strictly, to 65535 at most
pub record RowRule (nbal : ℕ) (row : List ℕ) : Type 0 where
  pub least : 2 ≤ nbal
  pub most : nbal ≤ 4
  pub places : length row ≡ 2 ^ nbal
  pub zeroth : get_or row 0 1 ≡ 0
  pub rising : (i j : ℕ) → i < j → j < length row → get_or row i 0 < get_or row j 0
  pub topped : (i : ℕ) → get_or row i 0 ≤ 65535

-- the sum of nbal over the subbands, as printed below each table
abbrev pub nbal_sum : BitAllocTable → ℕ
nbal_sum B2a = 88
nbal_sum B2b = 94
nbal_sum B2c = 26
nbal_sum B2d = 38
nbal_sum B1Lsf = 75

-- ---- what the functions promise

pub record SblimitIs (t : BitAllocTable) (r : ℕ) : Type 0 where
  pub whole : r ≡ sblimit_of t
  pub most : r ≤ 30

pub record PlacesAre (t : BitAllocTable) (sb r : ℕ) : Type 0 where
  pub whole : r ≡ length (row_of t sb)
  pub most : r ≤ 16

pub record NbalIs (t : BitAllocTable) (sb r : ℕ) : Type 0 where
  pub whole : r ≡ nbal_of t sb
  pub small : r ≤ 4

pub record StepsAre (t : BitAllocTable) (sb index : ℕ) (r : Option ℕ) : Type 0 where
  pub whole : r ≡ steps_at t sb index
  pub below : (n : ℕ) → r ≡ Some n → (index < 16) × (n ≤ 65535)

pub record AllocationIndexIs (t : BitAllocTable) (sb steps : ℕ) (r : Option ℕ) : Type 0 where
  pub whole : r ≡ index_of t sb steps
  pub below : (i : ℕ) → r ≡ Some i → i < 16
