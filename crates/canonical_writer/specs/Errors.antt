-- What the result of the canonical writer stands for.
use Rattle.std.specs.Prelude.{ℕ, [], Result, Ok, Err}
use Rattle.record_checker.specs.Errors.{error_in}
use Rattle.side_info_writer.specs.declared.WrittenSideInfo.{WrittenSideInfo}
use Rattle.side_info_writer.specs.Written as writer
use Rattle.side_info_writer.specs.Written.{WrittenAnswer, written}
use Rattle.canonical_writer.specs.declared.CanonicalError.{CanonicalError}
use Rattle.canonical_writer.specs.declared.CanonicalError.TheVariants.{Check, Write}

-- the number of the check's refusal, or of the writer's
abbrev pub error_number : CanonicalError → ℕ
error_number (Check e) = (error_in e).number
error_number (Write e) = writer.error_number e

abbrev pub canonical_in : Result WrittenSideInfo CanonicalError → WrittenAnswer
canonical_in (Ok w) = record { number = 0; bytes = w.bytes; bits_used = w.bits_used }
canonical_in (Err e) = written (error_number e) []
