use Rattle.std.proofs.Common.{List, ◌++◌, ap, sym, ◌∙◌, ◌-◌, ℕ, ◌≡◌, length, rules}
use Rattle.text_line.specs.Line.{text_of, cut}
use Rattle.text_line.proofs.LineLaws.{columned}
use Rattle.text_line.proofs.line.Line.aligned.Goals as goal

pub returns : goal.returns
returns c =
    let column = c.args.column in
    let wide : length (text_of column) ≡ column.length = search rules in
    columned (text_of c.args.self) (text_of column) c.args.width _ (c.saturating_sub.ensures ∙ ap (λ (n : ℕ). c.args.width - n) (sym wide)) c.spaces-line.ensures
    (c.text.ensures ∙ ap (λ (t : List ℕ). cut (text_of c.spaces-line.result ++ t)) c.as_bytes.ensures)
