-- The rows that show side information, one for each active slot: its subband and channel, its steps, its scfsi, and for each of its three granules the
-- scalefactor index and the multiplier that Table 3-B.1 of ISO/IEC 11172-3 has for it.
use Rattle.std.specs.Prelude.{ℕ, zero, suc, ◌+◌, ◌/◌, ◌%◌, List, [], ◌∷◌, ◌++◌, get_or, take, drop}
use Rattle.tables.specs.Scalefactors.{printed}
use Rattle.layout.specs.Slots.{channel_in, subband_in}
use Rattle.audio_data.specs.Scfsi.{Three, three}
use Rattle.plan_text.specs.Quoted.{text}
use Rattle.text_line.specs.Line.{aligned}
use Rattle.text_line.specs.Number.{number_text}

-- three indices in a row
abbrev pub three_in : List ℕ → Three
three_in xs = three (get_or xs 0 0) (get_or xs 1 0) (get_or xs 2 0)

-- the last k decimal digits of a number, the most significant first
unfoldable pub last_digits : ℕ → ℕ → List ℕ
last_digits zero n = []
last_digits (suc k) n = last_digits k (n / 10) ++ ((48 + n % 10) ∷ [])

-- 15 digits with a point behind the first: a number of units of 10 ^ -14
unfoldable pub pointed_text : ℕ → List ℕ
pointed_text n = take 1 (last_digits 15 n) ++ text "." ++ drop 1 (last_digits 15 n)

-- the multiplier of an index, as Table 3-B.1 prints it
unfoldable pub multiplier_text : ℕ → List ℕ
unfolding printed
multiplier_text index = pointed_text (get_or printed index 0)

abbrev pub heading_line : List ℕ
heading_line = text "subband  channel  steps  scfsi       indices  multipliers"

-- a slot, its steps, and the two-bit code of its scfsi (2.4.2.6)
unfoldable pub row_start : ℕ → ℕ → ℕ → List ℕ
row_start slot steps code =
    aligned 7 (number_text (subband_in slot)) ++ aligned 9 (number_text (channel_in slot)) ++ aligned 7 (number_text steps) ++ aligned 7 (number_text code)

-- the scalefactor indices of the three granules
unfoldable pub indices_text : Three → List ℕ
indices_text t = aligned 6 (number_text t.first) ++ aligned 4 (number_text t.second) ++ aligned 4 (number_text t.third)

-- a multiplier behind two spaces
unfoldable pub multiplier_column : ℕ → List ℕ
multiplier_column index = text "  " ++ multiplier_text index

unfoldable pub row_line : ℕ → ℕ → ℕ → Three → List ℕ
row_line slot steps code t =
    row_start slot steps code ++ indices_text t ++ multiplier_column t.first ++ multiplier_column t.second ++ multiplier_column t.third
