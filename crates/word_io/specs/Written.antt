-- What can be said of writing an answer: how many lines, and of which words and input; and the text, at a writer that says what it holds. Which bytes
-- standard output takes no contract says.
use Rattle.std.specs.Prelude.{ℕ, min, ◌≡◌, false, List, [], ◌∷◌, ◌++◌, length}
use Rattle.text_line.specs.Line.{fed}
use Rattle.word_notes.specs.Notes.{wants_input}

-- the lines of a page, as far as 64 bits count
unfoldable pub lines_in : List (List ℕ) → ℕ
lines_in page = min (length page) 18_446_744_073_709_551_615

-- the text of a page: its lines one behind the other, each with its line feed
unfoldable pub page_text : List (List ℕ) → List ℕ
page_text [] = []
page_text (line ∷ lines) = fed line ++ page_text lines

-- what a program's `run` answers: the number of lines of its answer to some words and some input, which is empty where the words ask for none
pub record Written (answer : List ℕ → List ℕ → List (List ℕ)) (r : ℕ) : Type 0 where
  pub words : List ℕ
  pub input : List ℕ
  pub unasked : wants_input words ≡ false → input ≡ []
  pub all : r ≡ lines_in (answer words input)
