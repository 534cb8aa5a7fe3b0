-- The whole answer of the writer of a frame's side information.
use Rattle.std.specs.Prelude.{ℕ, ◌-◌, ◌*◌, ◌≤◌, ◌≡◌, Bool, false, cond, List, [], ◌++◌, eqb, length, drop, replicate, Result, Ok, Err}
use Rattle.header.specs.declared.FrameHeader.{FrameHeader}
use Rattle.header.specs.Questions.{Question, number}
use Rattle.bit_string.specs.Bits.{packed, unpacked}
use Rattle.side_info.specs.declared.SideInfo.{SideInfo}
use Rattle.side_info.specs.SideInfo.{header_layout, side_info_bits, record_asked, bit_count}
use Rattle.encoder_bit_budget.specs.Budget.{header_asked}
use Rattle.encoder_bit_budget.specs.Budget as budget
use Rattle.side_info_writer.specs.declared.WrittenSideInfo.{WrittenSideInfo}
use Rattle.side_info_writer.specs.declared.WriteError.{WriteError}
use Rattle.side_info_writer.specs.declared.WriteError.TheVariants.{Header, StepsDiffer, StepsNotInRow, IndexNotInTable}

-- the header's questions, then those of the record in the header's layout
abbrev pub writer_asked : FrameHeader → SideInfo → List (Question ℕ)
writer_asked h r = header_asked h ++ record_asked (header_layout h) r

-- an answer: its number; the bytes, most significant bit first, with zeros behind the last bit that is used; and how many bits are used
pub record WrittenAnswer : Type 0 where
  pub number : ℕ
  pub bytes : List ℕ
  pub bits_used : ℕ

-- under a number, the bits packed into 174 bytes, and how many bits they are
abbrev pub written : ℕ → List Bool → WrittenAnswer
written n bits = record { number = n; bytes = packed 174 bits; bits_used = length bits }

-- the bits by the answer's number: beside a refusal there are none, so that 174 zeros and 0 are written
abbrev pub where_zero : ℕ → List Bool → List Bool
where_zero n bits = cond (eqb n 0) bits []

unfoldable pub written_of : FrameHeader → SideInfo → WrittenAnswer
unfolding packed side_info_bits
written_of h r =
    let n = number (writer_asked h r) in
    written n (where_zero n (side_info_bits (header_layout h) r))

-- the numbers of the writer's refusals: the header's, or that of the question that says no
abbrev pub error_number : WriteError → ℕ
error_number (Header e) = budget.error_number e
error_number StepsDiffer = 6
error_number StepsNotInRow = 7
error_number IndexNotInTable = 8

-- what the result of the function stands for
abbrev pub written_in : Result WrittenSideInfo WriteError → WrittenAnswer
written_in (Ok w) = record { number = 0; bytes = w.bytes; bits_used = w.bits_used }
written_in (Err e) = written (error_number e) []

-- ---- what `write_side_info` promises

-- besides the whole answer: how many bits an accepted record has; and of every answer that 1388 bits at most are used, and that the bytes' other bits
-- are 0
pub record WrittenIs (h : FrameHeader) (r : SideInfo) (w : WrittenAnswer) : Type 0 where
  pub whole : w ≡ written_of h r
  pub counted : w.number ≡ 0 → w.bits_used ≡ bit_count (header_layout h) r
  pub most : w.bits_used ≤ 1388
  pub behind : drop w.bits_used (unpacked w.bytes) ≡ replicate (8 * 174 - w.bits_used) false
