use Rattle.std.proofs.Common.{List, ◌++◌, ap, ◌∙◌, ℕ, ◌<◌, ◌^◌, arith, rules}
use Rattle.text_line.specs.Line.{text_of, cut}
use Rattle.text_line.proofs.NumberLaws.{printed}
use Rattle.text_line.proofs.line.Line.number.Goals as goal

pub returns : goal.returns
returns c =
    let fits : c.args.n < 2 ^ 64 = search rules in
    let few : c.args.n < 10 ^ 20 = omega arith in
    c.text.ensures
    ∙ ap (λ (t : List ℕ). cut (text_of c.args.self ++ t)) (c.as_bytes.ensures.value ∙ c.format.ensures.text ∙ printed 19 c.args.n fits few)
