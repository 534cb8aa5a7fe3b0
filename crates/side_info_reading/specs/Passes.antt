-- What `read_side_info` accepts passes the check.
use Rattle.std.specs.Prelude.{ℕ, ◌≡◌, List}
use Rattle.header.specs.declared.FrameHeader.{FrameHeader}
use Rattle.record_check.specs.Check.{CheckAnswer, checked, CheckIs}
use Rattle.side_info_reading.specs.Read.{ReadAnswer, ReadIs}

-- What the contracts of `read_side_info` and `check_record` come to together: whatever is read under a header passes under it.
pub record ReadPasses (h : FrameHeader) (bytes : List ℕ) (r : ReadAnswer) : Type 0 where
  pub passes : ReadIs h bytes r → r.number ≡ 0 → (c : CheckAnswer) → CheckIs h r.info c → c ≡ checked 0 0 0
