-- `plan_text::look_up` meets its contract.
use Rattle.std.proofs.Common.{◌∙◌, bytes_eq, rules, tests}
use Rattle.std.proofs.lemmas.Iterator.{YieldsList-from_slice}
use Rattle.std.proofs.lemmas.Iterator.Search.{find_from_yields_List}
use Rattle.plan_text.proofs.TableLaws.{at_entry, at_none}
use Rattle.plan_text.proofs.look_up.Goals as goal

pub returns-in_err-value : goal.returns-in_err-value
returns-in_err-value g c =
    c.from_residual.ensures
    ∙ at_none _ _ _
    (find_from_yields_List (λ e. bytes_eq c.args.word.now e.0.now) _ _ c.find.result c.find.ensures.ran
    (YieldsList-from_slice c.args.table.now c.iter.ensures.rest) (λ x b q k. search (rules, tests)))
    c.in_err-value.was

pub returns : goal.returns
returns g c =
    at_entry _ _ _
    (find_from_yields_List (λ e. bytes_eq c.args.word.now e.0.now) _ _ c.find.result c.find.ensures.ran
    (YieldsList-from_slice c.args.table.now c.iter.ensures.rest) (λ x b q k. search (rules, tests)))
    _ c.in_ok-value.was
