-- What is read, or the number of an error.
use Rattle.std.specs.Prelude.{ℕ, Bool, List, Result, Ok, Err}
use Rattle.side_info_reading.specs.Taken.{Taken, got, refused}
use Rattle.encoder_bit_budget.specs.Budget as budget
use Rattle.side_info_reading.specs.Read.{ReadAnswer, read}
use Rattle.side_info_reading.specs.Reading.{nothing}
use Rattle.side_info_reader.specs.declared.ReadSideInfo.{ReadSideInfo}
use Rattle.side_info_reader.specs.declared.ReadError.{ReadError}
use Rattle.side_info_reader.specs.declared.ReadError.TheVariants.{Header, EndOfBytes, ReservedIndex}

-- the numbers of the reader's refusals: the header's, or that of the question that says no
abbrev pub error_number : ReadError → ℕ
error_number (Header e) = budget.error_number e
error_number EndOfBytes = 9
error_number ReservedIndex = 10

-- what the result of the function stands for: beside a refusal every slot is idle, and no bit is used
abbrev pub read_in : Result ReadSideInfo ReadError → ReadAnswer
read_in (Ok r) = read 0 r.info r.bits_used
read_in (Err e) = read (error_number e) nothing 0

-- a value and the bits behind it, or the number
abbrev pub taken_by : {A : Type 0} → Result A ReadError → List Bool → Taken A
taken_by (Ok v) rest = got v rest
taken_by (Err e) rest = refused (error_number e)

-- a result, with what was written in the place of nothing
abbrev pub with_written : {A B : Type 0} → Result B ReadError → A → Result A ReadError
with_written (Ok x) v = Ok v
with_written (Err e) v = Err e
