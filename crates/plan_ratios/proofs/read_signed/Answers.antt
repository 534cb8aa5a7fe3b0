-- `plan_ratios::read_signed` meets its contract.
use Rattle.std.proofs.Common.{◌≡◌, sym, ap, ◌∙◌, arith, rules}
use borrow.Author.Tests.{ltb-true}
use Rattle.std.specs.Prelude.{option_map}
use lib.Ieee.{neg}
use Rattle.plan_ratios.proofs.RatioLaws.{minus_sign, plus_sign, no_sign, empty}
use Rattle.plan_ratios.proofs.read_signed.Goals as goal
use Rattle.plan_ratios.proofs.read_signed.Goals.{in_default-via-then-token-lt1, in_default-via-else-token-lt1+in_default-1}

pub returns-in-45 : goal.returns-in-45
returns-in-45 c =
    let m : c.map.result ≡ option_map neg c.read_unsigned.result = search rules in
    m ∙ ap (option_map neg) c.read_unsigned.ensures ∙ sym (minus_sign _ (omega arith))

pub returns-in-43 : goal.returns-in-43
returns-in-43 c = c.read_unsigned-in-43.ensures ∙ sym (plus_sign _ (omega arith))

pub returns-in_default : goal.returns-in_default
returns-in_default c =
    c.read_unsigned-in_default.ensures
    ∙ sym
    (elim c.in_default.branch [
      | in_default-via-then-token-lt1 w ↦ empty c.args.token.now (omega (arith, ltb-true))
      | in_default-via-else-token-lt1+in_default-1 w ↦ no_sign c.args.token.now (λ e. omega arith) (λ e. omega arith)
    ])
