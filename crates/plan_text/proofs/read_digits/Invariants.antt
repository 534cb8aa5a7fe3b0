use Rattle.std.proofs.Common.{◌≡◌, ℕ, ◌≤◌, drop}
use Rattle.plan_text.specs.Digits.{number_to}
use Rattle.plan_text.proofs.DigitLaws.{from}
use Rattle.plan_text.proofs.read_digits.Given as goal

abbrev pub most : ℕ
most = 999_999_999_999_999

abbrev pub invariant-loop-byte : goal.invariant-loop-byte
invariant-loop-byte l = (l.number ≤ most) × (number_to most l.text ≡ from most l.number (drop l.byte-index l.text))
