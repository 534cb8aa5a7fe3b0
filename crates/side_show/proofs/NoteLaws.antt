-- The lines that stand alone are no longer than what a line holds.
use Prim.Native.Nat.{ℕ, ◌≤◌}
use native.Mathlib.Omega.{arith}
use lib.ListN.{length, length-append}
use Rattle.word_notes.proofs.NoteLaws.{number_length, on_line_length}
use Rattle.side_show.specs.Notes.{wrong_character_text, odd_digits_text}

pub wrong_character_length : (line column : ℕ) → length (wrong_character_text line column) ≤ 256
unfolding wrong_character_text
wrong_character_length line column = simp length-append (omega (arith, on_line_length line, number_length column))

pub odd_digits_length : (line : ℕ) → length (odd_digits_text line) ≤ 256
unfolding odd_digits_text
odd_digits_length line = simp length-append (omega (arith, on_line_length line))
