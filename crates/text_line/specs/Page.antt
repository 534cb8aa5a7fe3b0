-- A page as a list of lines.
use Rattle.std.specs.Prelude.{ℕ, ◌≡◌, List, Option, option_map, slice_get}
use Rattle.text_line.specs.declared.line.Text.{Text}
use Rattle.text_line.specs.Line.{text_of}

-- the line of a number on a page, where there is one
abbrev pub LineAt : List (List ℕ) → ℕ → Option (Text 256) → Type 0
LineAt page n r = option_map text_of r ≡ slice_get page n
