-- `side_page::refusal::refused_line` meets its contract.
use Rattle.std.proofs.Common.{ap, ◌∙◌, ℕ}
use Rattle.side_page.specs.Page.{refused_line}
use Rattle.side_page.proofs.refusal.refused_line.Goals as goal

pub returns : goal.returns
returns c = c.numbered_line.ensures ∙ ap (λ (n : ℕ). refused_line c.args.header n c.args.given) c.number.ensures
