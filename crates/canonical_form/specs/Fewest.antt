-- The scfsi (scalefactor selection information) that a slot has in the one form of its frame. ISO/IEC 11172-3 (2.4.2.6, 2.4.3.3.2) leaves a choice where
-- neighbours agree: three equal indices can be sent with any of the four values, two equal neighbours as one index or as two. Here the value that sends
-- the fewest is taken. The indices stay as they are: the encoder's selection by Table C.4 (encoder_scfsi), which may change them, is another.
use Rattle.std.specs.Prelude.{◌≤◌, ◌≡◌, Bool, true, false, List, eqb}
use Rattle.tables.specs.Listed.{tabulate}
use Rattle.audio_data.specs.declared.Scfsi.{Scfsi}
use Rattle.audio_data.specs.declared.Scfsi.TheVariants.{ThreePerGranule, Share01Then2, ShareAll, Share0Then12}
use Rattle.audio_data.specs.Scfsi.{Three, parts_of, sent, restored}
use Rattle.side_info.specs.declared.SideInfo.{SideInfo}
use Rattle.side_info.specs.SideInfo.{side_info, scalefactors_in}

-- a scfsi carries three indices where the three are restored from those that it sends
abbrev pub Carries : Scfsi → Three → Type 0
Carries c t = restored c (sent c t) ≡ t

-- by whether the first two indices agree, and whether the last two do: one is sent where all three agree, two where only two neighbours do, else three
abbrev pub fewest_by : Bool → Bool → Scfsi
fewest_by true true = ShareAll
fewest_by true false = Share01Then2
fewest_by false true = Share0Then12
fewest_by false false = ThreePerGranule

abbrev pub fewest_scfsi : Three → Scfsi
fewest_scfsi t = fewest_by (eqb t.first t.second) (eqb t.second t.third)

-- What is promised of it: it carries the three, none of the four that does sends fewer, and no other that does sends as few.
pub record FewestIs (t : Three) (r : Scfsi) : Type 0 where
  pub whole : r ≡ fewest_scfsi t
  pub carries : Carries r t
  pub least : (c : Scfsi) → Carries c t → parts_of r ≤ parts_of c
  pub only : (c : Scfsi) → Carries c t → parts_of c ≤ parts_of r → c ≡ r

-- the scfsi of all 64 slots, from their indices; of idle ones too, which do not send it
unfoldable pub chosen : SideInfo → List Scfsi
chosen s = tabulate 64 (λ slot. fewest_scfsi (scalefactors_in s slot))

-- a record with the chosen scfsi in place of its own
abbrev pub canonical : SideInfo → SideInfo
canonical s = side_info s.steps (chosen s) s.scalefactors
