-- The bytes of a quoted text.
use Rattle.std.specs.Prelude.{ℕ, List, [], ◌∷◌}
use Prim.Native.Char.{code}
use Prim.Native.String.{String, [] as []ˢ, ◌∷◌ as ◌∷ˢ◌}

-- all of a text of ASCII characters
abbrev pub text : String → List ℕ
text []ˢ = []
text (c ∷ˢ s) = code c ∷ text s
