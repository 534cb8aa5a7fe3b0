-- `plan_text::find_byte` meets its contract.
use Rattle.std.proofs.Common.{ℕ, ◌+◌, ap, sym, eqb, arith, length-drop}
use Rattle.plan_text.proofs.ByteLaws.{reach_some, reach_none}
use Rattle.plan_text.proofs.find_byte.Goals as goal

pub returns-in-Some : goal.returns-in-Some
returns-in-Some c = ap (λ (n : ℕ). c.args.from + n) (sym (reach_some (λ b. eqb b c.args.byte) _ _ c.in-Some.ensures))

pub returns-in-None : goal.returns-in-None
returns-in-None c =
    let e = reach_none (λ b. eqb b c.args.byte) _ c.in-None.ensures in
    let l = length-drop c.args.from c.args.text.now in
    omega (arith, c.max.ensures)
