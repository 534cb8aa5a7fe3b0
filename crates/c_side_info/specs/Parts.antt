-- What the result of either writer stands for, with the number of its error in place of it.
-- For the contracts of what only this crate calls: nothing that a caller has to believe stands here.
use Rattle.std.specs.Prelude.{ℕ, [], Result, Ok, Err}
use Rattle.side_info_writer.specs.declared.WrittenSideInfo.{WrittenSideInfo}
use Rattle.side_info_writer.specs.Written.{WrittenAnswer, written}

abbrev pub written_by : Result WrittenSideInfo ℕ → WrittenAnswer
written_by (Ok w) = record { number = 0; bytes = w.bytes; bits_used = w.bits_used }
written_by (Err n) = written n []
