-- `plan_ratios::read_unsigned` meets its contract.
use Rattle.std.proofs.Common.{sym, ◌∙◌, rules, tests}
use Rattle.std.proofs.lemmas.Iterator.{YieldsList-from_slice}
use Rattle.std.proofs.lemmas.Iterator.Search.{position_from_yields_List}
use Rattle.plan_ratios.specs.Ratio.{is_point}
use Rattle.plan_ratios.proofs.RatioLaws.{at_point, no_point}
use Rattle.plan_ratios.proofs.read_unsigned.Goals as goal

pub returns-in-Some : goal.returns-in-Some
returns-in-Some c =
    let t = c.args.token.now in
    c.read_pointed.ensures
    ∙ at_point t _
    (sym c.in-Some.is
    ∙ position_from_yields_List is_point _ _ _ c.position.ensures.ran (YieldsList-from_slice t c.iter.ensures.rest) (λ x b q k. search (rules, tests)))

pub returns-in-None : goal.returns-in-None
returns-in-None c =
    let t = c.args.token.now in
    c.read_pointed-in-None.ensures
    ∙ no_point t
    (sym c.in-None.is
    ∙ position_from_yields_List is_point _ _ _ c.position.ensures.ran (YieldsList-from_slice t c.iter.ensures.rest) (λ x b q k. search (rules, tests)))
