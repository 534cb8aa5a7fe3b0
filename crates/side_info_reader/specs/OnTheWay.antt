-- What the functions find on the way to the record.
-- For the contracts of private functions alone: nothing that a caller has to believe stands here.
use Rattle.std.specs.Prelude.{ℕ, ◌≤◌, ◌≡◌, Bool, List, get_or, Result, Ok, Err}
use Rattle.bitalloc.specs.declared.BitAllocTable.{BitAllocTable}
use Rattle.bitalloc.specs.Tables.{row_of}
use Rattle.layout.specs.declared.Layout.{Layout}
use Rattle.bit_string.specs.Bits.{unpacked}
use Rattle.audio_data.specs.Scfsi.{Three, three_in}
use Rattle.side_info_reading.specs.Taken.{Taken, got, refused}
use Rattle.side_info_reading.specs.Reading.{side_info_taken}
use Rattle.side_info_reading.specs.Read.{ReadAnswer, read_by}
use Rattle.side_info_reader.specs.declared.ReadError.{ReadError}
use Rattle.side_info_reader.specs.Errors.{error_number}

pub record StepsAt (t : BitAllocTable) (sb place r : ℕ) : Type 0 where
  pub whole : r ≡ get_or (row_of t sb) place 0
  pub most : r ≤ 65535

-- ---- three indices

abbrev pub three_by : Result (List ℕ) ReadError → List Bool → Taken Three
three_by (Ok indices) rest = got (three_in indices) rest
three_by (Err e) rest = refused (error_number e)

-- ---- the answer in the layout of an accepted header

unfoldable pub read_under : Layout → List ℕ → ReadAnswer
read_under l bytes = read_by (unpacked bytes) (side_info_taken l (unpacked bytes))
