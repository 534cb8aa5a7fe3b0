-- `plan_ratios::count_lines` meets its contract.
use Rattle.std.proofs.Common.{sym, ap, ap₂, ◌∙◌, ℕ, ◌+◌, rules, tests}
use Rattle.std.specs.Option.{option_copied}
use Rattle.std.proofs.lemmas.Iterator.{YieldsList-from_slice}
use Rattle.std.proofs.lemmas.Iterator.Consumers.{YieldsList-from_filter, count_from_yields_List}
use Rattle.plan_text.specs.Lines.{ends_line}
use Rattle.plan_ratios.proofs.LineLaws.{lines_by_last}
use Rattle.plan_ratios.proofs.count_lines.Goals as goal

pub returns-in-Some : goal.returns-in-Some
returns-in-Some c =
    let text = c.args.text.now in
    let feeds =
    count_from_yields_List _ _ c.count-feeds.ensures.ran
    (YieldsList-from_filter _ ends_line (YieldsList-from_slice text cc) c.filter.ensures.closure (λ x b q k. search (rules, tests))) in
    ap₂ (λ (n m : ℕ). n + m) feeds c.from.ensures ∙ sym (lines_by_last ends_line text _ (sym c.last.ensures.value ∙ ap option_copied c.in-Some.is))
