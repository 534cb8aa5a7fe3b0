-- What a line says, and columns.
use Rattle.std.specs.Prelude.{ℕ, ◌-◌, List, [], ◌∷◌, ◌++◌, length, take, replicate}
use Prim.Native.Char.{code}
use Rattle.text_line.specs.declared.line.Text.{Text}

-- a text in fixed memory, as of a line
abbrev pub text_of : {N : ℕ} → Text N → List ℕ
text_of l = take l.length l.bytes

-- what a line holds of a text
unfoldable pub cut : List ℕ → List ℕ
cut t = take 256 t

abbrev pub spaces : ℕ → List ℕ
spaces n = replicate n 32

-- a text at the right of a column; a text that is wider than the column takes its own width
unfoldable pub aligned : ℕ → List ℕ → List ℕ
aligned width t = spaces (width - length t) ++ t

-- a text with a line feed behind it
abbrev pub fed : List ℕ → List ℕ
fed t = t ++ code "\n" ∷ []
