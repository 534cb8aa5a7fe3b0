-- `plan_page::page::page_line` meets its contract.
use Rattle.std.proofs.Common.{sym, ap, ◌∙◌, List, [], ◌∷◌, ℕ}
use Rattle.text_line.proofs.PageLaws.{moved}
use Rattle.plan_page.specs.Shown.{page_in}
use Rattle.plan_page.proofs.page.page_line.Goals as goal

pub returns-in-Ok : goal.returns-in-Ok
returns-in-Ok c = moved c.args.n (ap (page_in c.args.header) (sym c.in-Ok.is) ∙ c.parts.ensures) c.line.ensures

pub returns-in-Err : goal.returns-in-Err
returns-in-Err c =
    moved c.args.n
    (ap (λ (t : List ℕ). t ∷ []) c.refusal_line.ensures ∙ ap (page_in c.args.header) (sym c.in-Err.is) ∙ c.parts.ensures)
    c.only.ensures
