-- `plan_page::page::offered_bits` meets its contract: the whole number of a difference is the difference that stops at 0.
use mathlib.Core.Path.{◌≡◌, sym, ◌∙◌}
use Prim.Native.Nat.{◌+◌, ◌-◌}
use native.Mathlib.Omega.{arith}
use Rattle.encoder_bit_budget.specs.Budget.{fixed_in}
use Rattle.encoder_bit_budget.proofs.AvailableLaws.{natural_minus}
use Rattle.plan_page.proofs.page.offered_bits.Goals as goal

pub returns : goal.returns
returns c =
    let given = c.args in
    let same : c.from.result - (c.fixed.result + c.from-2.result) ≡ given.b.cb - (fixed_in given.b + given.banc) = omega arith in
    c.saturating_sub.ensures ∙ same ∙ sym (natural_minus _ _)
