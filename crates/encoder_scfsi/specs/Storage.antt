-- How the code keeps the rows of Table C.4: in the table's order and without their classes, seven numbers each.
-- For the contracts of private functions alone: nothing that a caller has to believe stands here.
use Rattle.std.specs.Prelude.{ℕ, List, [], ◌∷◌, map}
use Rattle.encoder_scfsi.specs.TableC4.{Prescribed, table_c4}
use Rattle.encoder_scfsi.specs.Select.{bit}

-- the three used, 1 for each that is transmitted, and the code
unfoldable pub stored : Prescribed → List ℕ
stored p =
    p.used.first ∷ p.used.second ∷ p.used.third
    ∷ bit p.pattern.write0 ∷ bit p.pattern.write1 ∷ bit p.pattern.write2
    ∷ p.scfsi ∷ []

unfoldable pub kept : List (List ℕ)
unfolding stored table_c4
kept = map (λ r. stored r.prescribed) table_c4
