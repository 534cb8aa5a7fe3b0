-- `encoder_scfsi::classify_difference` meets its contract: each return has the class that its tests lead to.
use mathlib.Core.Path.{◌∙◌}
use mathlib.Core.Bool.{Bool}
use lib.IntN.{ℤ, pos, negsuc}
use lib.Signed.{le_z, lt_z}
use Rattle.encoder_scfsi.proofs.ClassLaws.{as_read, class_1, class_2, class_3, class_4, class_5}
use Rattle.encoder_scfsi.proofs.classify_difference.Goals as goal

-- the code's tests
abbrev low : ℤ → Bool
low z = le_z z (negsuc 2)

abbrev negative : ℤ → Bool
negative z = lt_z z (pos 0)

abbrev small : ℤ → Bool
small z = lt_z z (pos 3)

pub returns-then-dscf-leminus3 : goal.returns-then-dscf-leminus3
returns-then-dscf-leminus3 c =
    class_1 _ (as_read low _ c.ranges.dscf ∙ c.if-dscf-leminus3.true)

pub returns-then-dscf-lt0 : goal.returns-then-dscf-lt0
returns-then-dscf-lt0 c =
    class_2 _ (as_read low _ c.ranges.dscf ∙ c.if-dscf-leminus3.false) (as_read negative _ c.ranges.dscf ∙ c.if-dscf-lt0.true)

pub returns-then-dscf-eq0 : goal.returns-then-dscf-eq0
returns-then-dscf-eq0 c =
    class_3 _ (as_read negative _ c.ranges.dscf ∙ c.if-dscf-lt0.false) c.if-dscf-eq0.true

pub returns-then-dscf-lt3 : goal.returns-then-dscf-lt3
returns-then-dscf-lt3 c =
    class_4 _ (as_read negative _ c.ranges.dscf ∙ c.if-dscf-lt0.false) c.if-dscf-eq0.false
    (as_read small _ c.ranges.dscf ∙ c.if-dscf-lt3.true)

pub returns-else-dscf-lt3 : goal.returns-else-dscf-lt3
returns-else-dscf-lt3 c =
    class_5 _ (as_read small _ c.ranges.dscf ∙ c.if-dscf-lt3.false)
