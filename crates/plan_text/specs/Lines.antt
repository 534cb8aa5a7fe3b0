-- What separates the words of a text: a line ends with a line feed or with the text; a comment goes from # to the end of its line; spaces, tabs and
-- carriage returns are white space within a line.
use Rattle.std.specs.Prelude.{ℕ, Bool, ◌||◌, eqb}
use Prim.Native.Char.{code}

-- the line feed
abbrev pub ends_line : ℕ → Bool
ends_line b = eqb b (code "\n")

-- what starts a comment
abbrev pub is_hash : ℕ → Bool
is_hash b = eqb b (code "#")

-- white space within a line
abbrev pub is_blank : ℕ → Bool
is_blank b = eqb b (code " ") || eqb b (code "\t") || eqb b (code "\r")

-- what ends a token
abbrev pub is_end : ℕ → Bool
is_end b = ends_line b || is_hash b || is_blank b
