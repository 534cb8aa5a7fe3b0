-- `plan_ratios::Slots::take` meets its contract.
use Rattle.std.proofs.Common.{sym, refl, ◌∙◌}
use Rattle.plan_ratios.specs.Tokens.{on_line}
use Rattle.plan_ratios.proofs.WalkLaws.{full_refused, unread_refused, read_passed}
use Rattle.plan_ratios.proofs.Slots.take.Goals as goal

pub returns-then-self : goal.returns-then-self
returns-then-self c = full_refused _ c.requires (on_line c.args.line c.args.token.now) c.if-self.true

pub returns-in_default : goal.returns-in_default
returns-in_default c =
    unread_refused _ c.requires (on_line c.args.line c.args.token.now) c.if-self.false (sym c.read_ratio.ensures ∙ c.in_default.is)

pub returns : goal.returns
returns c =
    read_passed _ c.requires (on_line c.args.line c.args.token.now) c.if-self.false c.in-Some.ratio _ (sym c.read_ratio.ensures ∙ c.in-Some.is)
    refl refl refl
