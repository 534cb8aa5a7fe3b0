-- What is read passes the check.
use mathlib.Core.Path.{sym, ap, ◌∙◌}
use mathlib.Core.List.{List}
use Prim.Native.Nat.{ℕ}
use Rattle.header.specs.declared.FrameHeader.{FrameHeader}
use Rattle.header.proofs.QuestionLaws.{both_zero}
use Rattle.layout.specs.Layout.{own, fields_of}
use Rattle.encoder_bit_budget.specs.Budget.{header_asked}
use Rattle.side_info.specs.SideInfo.{header_layout, record_asked}
use Rattle.side_info.proofs.ListLaws.{each_get}
use Rattle.side_info.proofs.AskedLaws.{FieldYes, record_yes}
use Rattle.side_info_writer.specs.Written.{WrittenAnswer}
use Rattle.record_check.proofs.PassLaws.{hang_together}
use Rattle.side_info_reading.specs.Read.{ReadAnswer}
use Rattle.side_info_reading.specs.Passes.{ReadPasses}
use Rattle.side_info_reading.proofs.ReadLaws.{rest_decides, zero_asked}

pub read_passes : (h : FrameHeader) (bytes : List ℕ) (r : ReadAnswer) → ReadPasses h bytes r
read_passes h bytes r = record {
  passes = λ is zero c check.
      let s = r.info in
      let l = header_layout h in
      let asked = zero_asked h s (ap (λ (w : WrittenAnswer). w.number) (is.again zero)) in
      let header = both_zero (header_asked h) (record_asked l s) asked in
      let fields = (record_yes l s (sym (rest_decides h s header) ∙ asked)).fields in
      let whole = is.restorable zero in
      check.passes header
      (hang_together l s (λ slot m. whole.outside slot) (λ f m. (each_get (FieldYes l s) (own 0 0) (fields_of l) fields f m).shared) (λ slot. whole.agrees slot));
}
