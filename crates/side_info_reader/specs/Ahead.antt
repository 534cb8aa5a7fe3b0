-- What a reader of bits is in clauses.
use Rattle.std.specs.Prelude.{Bool, List}

-- all bits, and those that are not taken yet
pub record Ahead : Type 0 where
  pub all : List Bool
  pub ahead : List Bool
