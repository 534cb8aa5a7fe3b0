-- The line that stands alone where the digits of the input cannot be read.
use Rattle.std.specs.Prelude.{ℕ, List, ◌++◌}
use Rattle.plan_text.specs.Quoted.{text}
use Rattle.text_line.specs.Number.{number_text}
use Rattle.word_notes.specs.Notes.{on_line}

unfoldable pub wrong_character_text : ℕ → ℕ → List ℕ
wrong_character_text line column =
    on_line line ++ text ", column " ++ number_text column
    ++ text ": not a hexadecimal digit: say 0 to 9, a to f or A to F, spaces, tabs and line ends as you like, and # before a comment."

unfoldable pub odd_digits_text : ℕ → List ℕ
odd_digits_text line = on_line line ++ text ": the last digit has no other beside it: say two for each byte."
