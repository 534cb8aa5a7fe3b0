-- The selection for three scalefactor indices (C.1.5.2.5 of ISO/IEC 11172-3), and what holds of it.
use Rattle.std.specs.Prelude.{ℕ, ◌+◌, ◌≤◌, ◌<◌, ◌≡◌, Bool, cond, List, [], ◌∷◌, pos, ◌-ℤ◌, get_or}
use types.Run.{OneOf}
use Rattle.audio_data.specs.Scfsi.{Three, three, Agrees, sent, restored, of_code, parts_of}
use Rattle.encoder_scfsi.specs.declared.DifferenceClass.{DifferenceClass}
use Rattle.encoder_scfsi.specs.declared.TransmissionPattern.{TransmissionPattern}
use Rattle.encoder_scfsi.specs.declared.ScfsiSelection.{ScfsiSelection}
use Rattle.encoder_scfsi.specs.Class.{difference_class}
use Rattle.encoder_scfsi.specs.TableC4.{Prescribed, prescribed_for, named, each, listed}

-- what a row prescribes, done to three indices
unfoldable pub adjusted : ℕ → ℕ → ℕ → DifferenceClass → DifferenceClass → Prescribed → ScfsiSelection
unfolding named
adjusted a b c class1 class2 p = record {
  used = listed (each (named a b c) p.used);
  pattern = p.pattern;
  scfsi = of_code p.scfsi;
  class1 = class1;
  class2 = class2;
}

-- dscf1 is the first index minus the second, dscf2 the second minus the third
unfoldable pub selection : ℕ → ℕ → ℕ → ScfsiSelection
unfolding difference_class prescribed_for adjusted
selection a b c =
    let class1 = difference_class (pos a -ℤ pos b) in
    let class2 = difference_class (pos b -ℤ pos c) in
    adjusted a b c class1 class2 (prescribed_for class1 class2)

-- 1 where a flag is set
abbrev pub bit : Bool → ℕ
bit b = cond b 1 0

-- how many used indices a pattern marks
abbrev pub count_of : TransmissionPattern → ℕ
count_of p = bit p.write0 + bit p.write1 + bit p.write2

-- those that it marks, in order
abbrev pub keep : Bool → ℕ → List ℕ → List ℕ
keep write x xs = cond write (x ∷ xs) xs

abbrev pub marked : TransmissionPattern → Three → List ℕ
marked p t = keep p.write0 t.first (keep p.write1 t.second (keep p.write2 t.third []))

-- the three of an array of three
abbrev pub three_in : List ℕ → Three
three_in xs = three (get_or xs 0 0) (get_or xs 1 0) (get_or xs 2 0)

-- ---- what the functions promise

pub record CountIs (p : TransmissionPattern) (r : ℕ) : Type 0 where
  pub whole : r ≡ count_of p
  pub most : r ≤ 3

-- Each used index is one of those given; the used indices agree with the sharing that the scfsi states; those marked are the ones that
-- the scfsi sends, and so are as many; and a decoder gets the used indices back from those marked.
pub record SelectionRule (a b c : ℕ) (s : ScfsiSelection) : Type 0 where
  pub given : (i : ℕ) → i < 3 → OneOf (a ∷ b ∷ c ∷ []) (get_or s.used i 0)
  pub agrees : Agrees s.scfsi (three_in s.used)
  pub marks : marked s.pattern (three_in s.used) ≡ sent s.scfsi (three_in s.used)
  pub count : count_of s.pattern ≡ parts_of s.scfsi
  pub back : restored s.scfsi (marked s.pattern (three_in s.used)) ≡ three_in s.used

pub record SelectionIs (a b c : ℕ) (r : ScfsiSelection) : Type 0 where
  pub whole : r ≡ selection a b c
  pub ruled : SelectionRule a b c r
