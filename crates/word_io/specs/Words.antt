-- What reading leaves in a buffer. What the words and standard input are no contract of the kit says: `Env::arg` answers a count within the
-- buffer, or an error, and the number of words, which is found by asking, may be any.
use Rattle.std.specs.Prelude.{ℕ, ◌+◌, ◌-◌, ◌≤◌, ◌<◌, min, ◌≡◌, false, List, [], ◌∷◌, ◌++◌, length, take, drop, set}
use Rattle.word_notes.specs.Notes.{wants_input}

-- words one behind the other, each ended by a byte 0
abbrev pub laid : List (List ℕ) → List ℕ
laid [] = []
laid (w ∷ ws) = w ++ 0 ∷ laid ws

-- bytes that are so many words
pub record Laid (count : ℕ) (bytes : List ℕ) : Type 0 where
  pub words : List (List ℕ)
  pub all : length words ≡ count
  pub each : bytes ≡ laid words

-- the byte 0 put behind a word that ends at a place: `r` is the place behind it, or the buffer's end where there is no room
pub record WordEnded (old new : List ℕ) (end r : ℕ) : Type 0 where
  pub place : r ≡ min (end + 1) (length old)
  pub put : new ≡ set old end 0

-- one word read to a place: `r` is the place behind its byte 0, or the buffer's end where it does not fit
pub record WordRead (old new : List ℕ) (at r : ℕ) : Type 0 where
  pub within : r ≤ length old
  pub onward : at ≤ r
  pub same : length new ≡ length old
  pub kept : take at new ≡ take at old
  pub word : r < length old → Laid 1 (take (r - at) (drop at new))

-- all words, behind the program's name, which is the first of `count`: `r` is how many bytes they take, or the whole buffer where they do not fit
pub record WordsRead (count : ℕ) (old new : List ℕ) (r : ℕ) : Type 0 where
  pub within : r ≤ length old
  pub words : r < length old → Laid (count - 1) (take r new)

-- the input, of which nothing is read where the words ask for none
pub record InputRead (words old new : List ℕ) (r : ℕ) : Type 0 where
  pub within : r ≤ length old
  pub unasked : wants_input words ≡ false → r ≡ 0
  pub untouched : wants_input words ≡ false → new ≡ old
