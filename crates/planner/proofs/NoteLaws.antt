-- The lines that stand alone are no longer than what a line holds.
use Prim.Native.Nat.{ℕ, ◌≤◌}
use native.Mathlib.Omega.{arith}
use lib.ListN.{length, length-append}
use Rattle.word_notes.proofs.NoteLaws.{number_length, on_line_length}
use Rattle.planner.specs.Notes.{cannot_read_text, too_many_text, too_few_text}

pub cannot_read_length : (n : ℕ) → length (cannot_read_text n) ≤ 256
unfolding cannot_read_text
cannot_read_length n = simp length-append (omega (arith, on_line_length n))

pub too_many_length : (n slots : ℕ) → length (too_many_text n slots) ≤ 256
unfolding too_many_text
too_many_length n slots = simp length-append (omega (arith, on_line_length n, number_length slots))

pub too_few_length : (n count slots : ℕ) → length (too_few_text n count slots) ≤ 256
unfolding too_few_text
too_few_length n count slots = simp length-append (omega (arith, on_line_length n, number_length count, number_length slots))
