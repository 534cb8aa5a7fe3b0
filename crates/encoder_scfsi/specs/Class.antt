-- The class of a difference dscf of two successive scalefactor indices: C.1.5.2.5 of ISO/IEC 11172-3.
use Rattle.std.specs.Prelude.{ℕ, zero, suc, ◌≤◌, ◌≡◌, ℤ, pos, negsuc}
use Rattle.encoder_scfsi.specs.declared.DifferenceClass.{DifferenceClass}
use Rattle.encoder_scfsi.specs.declared.DifferenceClass.TheVariants.{Class1, Class2, Class3, Class4, Class5}

abbrev pub class_number : DifferenceClass → ℕ
class_number Class1 = 1
class_number Class2 = 2
class_number Class3 = 3
class_number Class4 = 4
class_number Class5 = 5

-- At most -3; -2, -1; 0; 1, 2; at least 3. Here `negsuc n` is -(n + 1).
unfoldable pub difference_class : ℤ → DifferenceClass
difference_class (negsuc (suc (suc n))) = Class1
difference_class (negsuc (suc zero)) = Class2
difference_class (negsuc zero) = Class2
difference_class (pos zero) = Class3
difference_class (pos (suc zero)) = Class4
difference_class (pos (suc (suc zero))) = Class4
difference_class (pos (suc (suc (suc n)))) = Class5

-- ---- what `as_index` promises

pub record NumberIs (c : DifferenceClass) (r : ℕ) : Type 0 where
  pub whole : r ≡ class_number c
  pub least : 1 ≤ r
  pub most : r ≤ 5
