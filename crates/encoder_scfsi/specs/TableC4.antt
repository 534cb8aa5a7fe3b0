-- Table C.4 of ISO/IEC 11172-3, "Layer II scalefactor transmission patterns" (C.1.5.2.5).
use Rattle.std.specs.Prelude.{ℕ, min, Bool, true, false, cond, ◌&&◌, List, [], ◌∷◌, eqb, Option, None, Some}
use Rattle.tables.specs.Search.{find}
use Rattle.audio_data.specs.Scfsi.{Three, three}
use Rattle.encoder_scfsi.specs.declared.DifferenceClass.{DifferenceClass}
use Rattle.encoder_scfsi.specs.declared.TransmissionPattern.{TransmissionPattern}
use Rattle.encoder_scfsi.specs.Class.{class_number}

-- What a row prescribes: the scalefactor used for each granule, where 1, 2 and 3 name those given and 4 the maximum of the three; which
-- of the used ones are transmitted; the code of the scfsi.
pub record Prescribed : Type 0 where
  pub used : Three
  pub pattern : TransmissionPattern
  pub scfsi : ℕ

-- a row: the classes of dscf1 and dscf2, and what it prescribes for them
pub record Row : Type 0 where
  pub class1 : ℕ
  pub class2 : ℕ
  pub prescribed : Prescribed

abbrev prescribes : Three → TransmissionPattern → ℕ → Prescribed
prescribes used pattern scfsi = record { used = used; pattern = pattern; scfsi = scfsi }

abbrev row : ℕ → ℕ → Three → TransmissionPattern → ℕ → Row
row class1 class2 used pattern scfsi = record { class1 = class1; class2 = class2; prescribed = prescribes used pattern scfsi }

-- ---- the transmission patterns; where one scalefactor serves all three granules, the third place is the one marked

abbrev every : TransmissionPattern
every = record { write0 = true; write1 = true; write2 = true }

abbrev first_second : TransmissionPattern
first_second = record { write0 = true; write1 = true; write2 = false }

abbrev first_third : TransmissionPattern
first_third = record { write0 = true; write1 = false; write2 = true }

abbrev third_only : TransmissionPattern
third_only = record { write0 = false; write1 = false; write2 = true }

-- class of dscf1, class of dscf2, used in the encoder, transmitted, scfsi
unfoldable pub table_c4 : List Row
table_c4 =
    row 1 1 (three 1 2 3) every 0
    ∷ row 1 2 (three 1 2 2) first_second 3
    ∷ row 1 3 (three 1 2 2) first_second 3
    ∷ row 1 4 (three 1 3 3) first_third 3
    ∷ row 1 5 (three 1 2 3) every 0
    ∷ row 2 1 (three 1 1 3) first_third 1
    ∷ row 2 2 (three 1 1 1) third_only 2
    ∷ row 2 3 (three 1 1 1) third_only 2
    ∷ row 2 4 (three 4 4 4) third_only 2
    ∷ row 2 5 (three 1 1 3) first_third 1
    ∷ row 3 1 (three 1 1 1) third_only 2
    ∷ row 3 2 (three 1 1 1) third_only 2
    ∷ row 3 3 (three 1 1 1) third_only 2
    ∷ row 3 4 (three 3 3 3) third_only 2
    ∷ row 3 5 (three 1 1 3) first_third 1
    ∷ row 4 1 (three 2 2 2) third_only 2
    ∷ row 4 2 (three 2 2 2) third_only 2
    ∷ row 4 3 (three 2 2 2) third_only 2
    ∷ row 4 4 (three 3 3 3) third_only 2
    ∷ row 4 5 (three 1 2 3) every 0
    ∷ row 5 1 (three 1 2 3) every 0
    ∷ row 5 2 (three 1 2 2) first_second 3
    ∷ row 5 3 (three 1 2 2) first_second 3
    ∷ row 5 4 (three 1 3 3) first_third 3
    ∷ row 5 5 (three 1 2 3) every 0
    ∷ []

-- the row of two classes
abbrev pub keyed : ℕ → ℕ → Row → Bool
keyed class1 class2 r = eqb r.class1 class1 && eqb r.class2 class2

unfoldable pub pattern_row : DifferenceClass → DifferenceClass → Option Row
unfolding table_c4
pattern_row class1 class2 = find (keyed (class_number class1) (class_number class2)) table_c4

-- What it prescribes. Each pair of classes has a row; the first case only makes the function whole.
abbrev pub prescribed_in : Option Row → Prescribed
prescribed_in None = prescribes (three 1 2 3) every 0
prescribed_in (Some r) = r.prescribed

unfoldable pub prescribed_for : DifferenceClass → DifferenceClass → Prescribed
unfolding pattern_row
prescribed_for class1 class2 = prescribed_in (pattern_row class1 class2)

-- ---- the scalefactor indices that the table names

-- 1, 2 and 3 are those given. 4 is the maximum scalefactor: the largest multiplier has the smallest index.
unfoldable pub named : ℕ → ℕ → ℕ → ℕ → ℕ
named a b c n = cond (eqb n 1) a (cond (eqb n 2) b (cond (eqb n 3) c (min a (min b c))))

abbrev pub each : (ℕ → ℕ) → Three → Three
each f t = three (f t.first) (f t.second) (f t.third)

abbrev pub listed : Three → List ℕ
listed t = t.first ∷ t.second ∷ t.third ∷ []
