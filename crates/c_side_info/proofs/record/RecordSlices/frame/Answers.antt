-- `c_side_info::record::RecordSlices::frame` meets its contract: the header's numbers mean nothing, or the codes do, or both mean something.
use Rattle.std.proofs.Common.{◌≡◌, true, false, rules, ap, ◌∙◌, Ok, Err}
use Rattle.std.specs.Array.{IsFirstChunk}
use Rattle.c_side_info.specs.Arguments.{are_codes}
use Rattle.c_answers.specs.Refusals.{meaning_in}
use Rattle.c_side_info.proofs.RecordLaws.{no_header, no_codes, a_frame}
use Rattle.c_side_info.proofs.record.RecordSlices.frame.Goals as goal

pub returns-in_err-header : goal.returns-in_err-header
returns-in_err-header c =
    let a = c.args in
    let s : IsFirstChunk a.self.steps.now c.in_ok-steps.steps.now 64 = search rules in
    let k : IsFirstChunk a.self.scfsi.now c.in_ok-codes.codes.now 64 = search rules in
    let x : IsFirstChunk a.self.index.now c.in_ok-index.index.now 192 = search rules in
    let e : c.from_residual-in_err-header.result ≡ Err c.in_err-header.field-0.0 = search rules in
    let r : c.header.result ≡ Err c.in_err-header.field-0.0 = search rules in
    ap meaning_in e ∙ no_header _ _ _ _ _ _ s k x _ _ _ c.header.ensures _ r

pub returns-then-not-are_codes : goal.returns-then-not-are_codes
returns-then-not-are_codes c =
    let a = c.args in
    let s : IsFirstChunk a.self.steps.now c.in_ok-steps.steps.now 64 = search rules in
    let k : IsFirstChunk a.self.scfsi.now c.in_ok-codes.codes.now 64 = search rules in
    let x : IsFirstChunk a.self.index.now c.in_ok-index.index.now 192 = search rules in
    let r : c.header.result ≡ Ok c.in_ok-header.header = search rules in
    let known : are_codes c.in_ok-codes.codes.now ≡ false = search rules in
    no_codes _ _ _ _ _ _ s k x _ _ _ c.header.ensures _ r known

pub returns : goal.returns
returns c =
    let a = c.args in
    let s : IsFirstChunk a.self.steps.now c.in_ok-steps.steps.now 64 = search rules in
    let k : IsFirstChunk a.self.scfsi.now c.in_ok-codes.codes.now 64 = search rules in
    let x : IsFirstChunk a.self.index.now c.in_ok-index.index.now 192 = search rules in
    let r : c.header.result ≡ Ok c.in_ok-header.header = search rules in
    let known : are_codes c.in_ok-codes.codes.now ≡ true = search rules in
    rw c.slots.ensures (a_frame _ _ _ _ _ _ s k x _ _ _ c.header.ensures _ r known)
