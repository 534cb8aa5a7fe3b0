use Rattle.std.proofs.Common.{List, ℕ, ◌++◌, ap, ◌∙◌, rules, ◌≤◌, length, take}
use Rattle.text_line.specs.Line.{text_of}
use Rattle.text_line.proofs.LineLaws.{ended_by}
use Rattle.text_line.proofs.line.Line.ended.Goals as goal

pub returns : goal.returns
returns c =
    let whole : length (text_of c.args.self) ≤ 256 = search rules in
    ended_by (text_of c.args.self) whole c.new.ensures (c.with.ensures ∙ ap (λ (t : List ℕ). take 257 (text_of c.new.result ++ t)) c.as_bytes.ensures) c.with-2.ensures
