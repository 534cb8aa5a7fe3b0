-- `hex_text::worth` meets its contract.
use native.Mathlib.Omega.{arith}
use Rattle.hex_text.proofs.DigitLaws.{digit_read, no_digit}
use Rattle.hex_text.proofs.worth.Goals as goal

pub returns-in_err-digit : goal.returns-in_err-digit
returns-in_err-digit c = rw c.from_residual.ensures (record { whole = no_digit c.args.byte (omega arith) c.in_err-digit.ensures.value; small = tt })

pub returns : goal.returns
returns c =
    let v = c.in_ok-digit.ensures.value in
    record { whole = digit_read c.args.byte (omega arith) _ v.0 v.1; small = rw v.1 v.0 }
