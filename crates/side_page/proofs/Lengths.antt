-- The line of a refusal is no longer than what a line holds.
use Prim.Native.Nat.{ℕ, ◌≤◌}
use native.Mathlib.Omega.{arith}
use lib.ListN.{length, length-append}
use Rattle.text_line.proofs.NumberLaws.{few_digits}
use Rattle.side_page.specs.Page.{cut_short_text}

pub cut_short_length : (given : ℕ) → length (cut_short_text given) ≤ 256
unfolding cut_short_text
cut_short_length given = simp length-append (omega (arith, few_digits 20 given))
