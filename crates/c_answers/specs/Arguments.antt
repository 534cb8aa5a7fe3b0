-- What the numbers stand for by which C hands a header or a table.
use Rattle.std.specs.Prelude.{ℕ, Bool, cond, ◌&&◌, eqb, leb, Option, None, Some}
use Rattle.header.specs.declared.Mode.{Mode}
use Rattle.header.specs.declared.ModeExtension.{ModeExtension}
use Rattle.header.specs.declared.FrameHeader.{FrameHeader}
use Rattle.header.specs.Header.{mode_of_code, extension_of_code}
use Rattle.bitalloc.specs.declared.BitAllocTable.{BitAllocTable}
use Rattle.bitalloc.specs.Tables.{table_numbered}
use Rattle.c_answers.specs.Answers.{Meaning, asked}
use Rattle.c_answers.specs.declared.arguments.HeaderNumbers.{HeaderNumbers}

-- a flag is 0 or 1
abbrev pub are_flags : ℕ → ℕ → ℕ → Bool
are_flags lsf padding protection = leb lsf 1 && leb padding 1 && leb protection 1

-- the header of a mode and an extension, where there are both
abbrev pub where_both : (Mode → ModeExtension → FrameHeader) → Option Mode → Option ModeExtension → Option FrameHeader
where_both f None e = None
where_both f (Some m) None = None
where_both f (Some m) (Some e) = Some (f m e)

-- the header of seven arguments, in their order; nothing where one of them means nothing
unfoldable pub header_in : ℕ → ℕ → ℕ → ℕ → ℕ → ℕ → ℕ → Option FrameHeader
header_in lsf bit-rate sample-rate padding protection mode extension =
    cond (are_flags lsf padding protection)
    (where_both
    (λ m e. record {
      lsf = eqb lsf 1;
      bit_rate = bit-rate;
      sample_rate = sample-rate;
      padding = eqb padding 1;
      mode = m;
      mode_extension = e;
      protection_bit = eqb protection 1;
    })
    (mode_of_code mode) (extension_of_code extension))
    None

-- the same of the code's seven numbers
abbrev pub header_numbered : HeaderNumbers → Option FrameHeader
header_numbered n =
    header_in n.lsf n.bit_rate n.sample_rate n.padding n.protection_bit n.mode n.mode_extension

-- what a function with a header asks first: whether a slice is short, then what the seven arguments mean
abbrev pub header_meant : Bool → ℕ → ℕ → ℕ → ℕ → ℕ → ℕ → ℕ → Meaning FrameHeader
header_meant short lsf bit-rate sample-rate padding protection mode extension =
    asked short (header_in lsf bit-rate sample-rate padding protection mode extension)

-- the same with a table
abbrev pub table_meant : Bool → ℕ → Meaning BitAllocTable
table_meant short table = asked short (table_numbered table)
