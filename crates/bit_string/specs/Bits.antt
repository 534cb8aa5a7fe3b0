-- Bit strings, and their packing into bytes. A bit string is the list of its bits in the order in which they travel; of a number the most
-- significant bit goes first (ISO/IEC 11172-3 2.2.6, uimsbf), and so in a byte.
use Rattle.std.specs.Prelude.{ℕ, zero, suc, ◌+◌, ◌/◌, ◌%◌, ◌^◌, Bool, false, cond, List, [], ◌∷◌, ◌++◌, eqb, length, take, drop}

-- the low w bits of a number: bit w - 1, .., bit 1, bit 0
unfoldable pub bits_of : ℕ → ℕ → List Bool
bits_of zero n = []
bits_of (suc w) n = eqb ((n / 2 ^ w) % 2) 1 ∷ bits_of w n

-- the number that bits stand for
unfoldable pub value_of : List Bool → ℕ
value_of [] = 0
value_of (b ∷ bs) = cond b (2 ^ length bs) 0 + value_of bs

-- the number that stands in the first w bits, or in all where there are fewer
abbrev pub front : ℕ → List Bool → ℕ
front w bs = value_of (take w bs)

-- ---- bytes

-- the bits of bytes, one byte after the other
unfoldable pub unpacked : List ℕ → List Bool
unpacked [] = []
unpacked (b ∷ bytes) = bits_of 8 b ++ unpacked bytes

-- the first w bits, with zeros behind the last where there are fewer
unfoldable pub filled_to : ℕ → List Bool → List Bool
filled_to zero bs = []
filled_to (suc w) [] = false ∷ filled_to w []
filled_to (suc w) (b ∷ bs) = b ∷ filled_to w bs

-- the bits in eights, as n bytes: zeros behind the last bit; what goes beyond 8 * n bits is cut off
unfoldable pub packed : ℕ → List Bool → List ℕ
unfolding value_of filled_to
packed zero bs = []
packed (suc n) bs = value_of (filled_to 8 bs) ∷ packed n (drop 8 bs)
