-- What the functions find on the way to the bytes.
-- For the contracts of private functions alone: nothing that a caller has to believe stands here.
use Rattle.std.specs.Prelude.{ℕ, ◌<◌, ◌≡◌, Bool, true, false, cond, length, get_or, Result, Err, Option, ok_or}
use mathlib.Core.List.{List, ◌++◌, map}
use Rattle.header.specs.Questions.{Question, number}
use Rattle.bitalloc.specs.declared.BitAllocTable.{BitAllocTable}
use Rattle.bitalloc.specs.Tables.{index_of}
use Rattle.layout.specs.declared.Layout.{Layout}
use Rattle.layout.specs.declared.AllocationField.{AllocationField}
use Rattle.layout.specs.Layout.{field_steps}
use Rattle.bit_string.specs.Bits.{packed}
use Rattle.side_info.specs.declared.SideInfo.{SideInfo}
use Rattle.side_info.specs.SideInfo.{shared_asked, scalefactor_asked, record_asked, side_info_bits}
use Rattle.side_info_writer.specs.declared.WriteError.{WriteError}
use Rattle.side_info_writer.specs.declared.WriteError.TheVariants.{StepsDiffer, StepsNotInRow}
use Rattle.side_info_writer.specs.Written.{WrittenAnswer, written, where_zero}

-- ---- a field: whether its channels agree, and the place of its steps

abbrev pub found_by : Bool → Option ℕ → Result ℕ WriteError
found_by false o = Err StepsDiffer
found_by true o = ok_or o StepsNotInRow

unfoldable pub found : BitAllocTable → AllocationField → SideInfo → Result ℕ WriteError
found t x r = found_by (shared_asked r x).yes (index_of t x.subband (field_steps r.steps x))

-- ---- questions

-- all are answered yes: what follows decides
pub record Passed (qs : List (Question ℕ)) : Type 0 where
  pub decides : (rest : List (Question ℕ)) → number (qs ++ rest) ≡ number rest

-- one is answered no, by the number
pub record Stopped (qs : List (Question ℕ)) (n : ℕ) : Type 0 where
  pub decides : (rest : List (Question ℕ)) → number (qs ++ rest) ≡ n

-- ---- the indices

-- question 8 is answered yes of every slot
pub record EachTabled (slots : List ℕ) (r : SideInfo) : Type 0 where
  pub yes : (k : ℕ) → k < length slots → (scalefactor_asked r (get_or slots k 0)).yes ≡ true

-- whether it is
pub record TabledAre (slots : List ℕ) (r : SideInfo) (v : Bool) : Type 0 where
  pub answer : number (map (scalefactor_asked r) slots) ≡ cond v 0 8
  pub each : v ≡ true → EachTabled slots r

-- ---- the answer

-- the answer in the layout of an accepted header
unfoldable pub written_under : Layout → SideInfo → WrittenAnswer
unfolding packed side_info_bits
written_under l r = let n = number (record_asked l r) in written n (where_zero n (side_info_bits l r))
