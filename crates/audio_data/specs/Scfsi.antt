-- Scalefactor selection information of ISO/IEC 11172-3 (2.4.2.6, 2.4.3.3.2): which of the three scalefactor indices of a subband in a
-- channel travel, and how three come back from those.
use Rattle.std.specs.Prelude.{ℕ, zero, suc, ◌≤◌, ◌≡◌, Bool, true, ◌&&◌, List, [], ◌∷◌, eqb, get_or}
use Rattle.audio_data.specs.declared.Scfsi.{Scfsi}
use Rattle.audio_data.specs.declared.Scfsi.TheVariants.{ThreePerGranule, Share01Then2, ShareAll, Share0Then12}

-- the two-bit code
abbrev pub code_of : Scfsi → ℕ
code_of ThreePerGranule = 0
code_of Share01Then2 = 1
code_of ShareAll = 2
code_of Share0Then12 = 3

-- the scfsi of a code: 0, 1, 2 and 3
abbrev pub of_code : ℕ → Scfsi
of_code zero = ThreePerGranule
of_code (suc zero) = Share01Then2
of_code (suc (suc zero)) = ShareAll
of_code (suc (suc (suc n))) = Share0Then12

-- the number of scalefactors transmitted
abbrev pub parts_of : Scfsi → ℕ
parts_of ThreePerGranule = 3
parts_of Share01Then2 = 2
parts_of ShareAll = 1
parts_of Share0Then12 = 2

-- something for each of the three granules
pub record Three : Type 0 where
  pub first : ℕ
  pub second : ℕ
  pub third : ℕ

abbrev pub three : ℕ → ℕ → ℕ → Three
three a b c = record { first = a; second = b; third = c }

-- three in a row
abbrev pub three_in : List ℕ → Three
three_in xs = three (get_or xs 0 0) (get_or xs 1 0) (get_or xs 2 0)

-- The indices that travel, in order. Granules that share an index agree on it; granule 0's stands for 0 and 1 and for all three,
-- granule 2's for 1 and 2.
abbrev pub sent : Scfsi → Three → List ℕ
sent ThreePerGranule t = t.first ∷ t.second ∷ t.third ∷ []
sent Share01Then2 t = t.first ∷ t.third ∷ []
sent ShareAll t = t.first ∷ []
sent Share0Then12 t = t.first ∷ t.third ∷ []

-- the three indices that come back from those that travelled
abbrev pub restored : Scfsi → List ℕ → Three
restored ThreePerGranule xs = three (get_or xs 0 0) (get_or xs 1 0) (get_or xs 2 0)
restored Share01Then2 xs = three (get_or xs 0 0) (get_or xs 0 0) (get_or xs 1 0)
restored ShareAll xs = three (get_or xs 0 0) (get_or xs 0 0) (get_or xs 0 0)
restored Share0Then12 xs = three (get_or xs 0 0) (get_or xs 1 0) (get_or xs 1 0)

-- granules that share an index have the same
abbrev pub Agrees : Scfsi → Three → Type 0
Agrees ThreePerGranule t = Unit {0}
Agrees Share01Then2 t = t.first ≡ t.second
Agrees ShareAll t = (t.first ≡ t.second) × (t.second ≡ t.third)
Agrees Share0Then12 t = t.second ≡ t.third

-- the same as a test: whether granules that share an index have the same
abbrev pub agreeing : Scfsi → Three → Bool
agreeing ThreePerGranule t = true
agreeing Share01Then2 t = eqb t.first t.second
agreeing ShareAll t = eqb t.first t.second && eqb t.second t.third
agreeing Share0Then12 t = eqb t.second t.third

-- ---- what the functions promise

pub record CodeIs (s : Scfsi) (r : ℕ) : Type 0 where
  pub whole : r ≡ code_of s
  pub small : r ≤ 3

pub record PartsAre (s : Scfsi) (r : ℕ) : Type 0 where
  pub whole : r ≡ parts_of s
  pub least : 1 ≤ r
  pub most : r ≤ 3
