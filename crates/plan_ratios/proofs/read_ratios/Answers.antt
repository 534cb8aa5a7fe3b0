-- `plan_ratios::read_ratios` meets its contract.
use Rattle.std.proofs.Common.{ℕ, sym, refl, ap, ◌∙◌}
use lib.Ieee.{of_bits}
use Rattle.std.specs.Prelude.{Err}
use Rattle.std.proofs.lemmas.Result.{err_from_is_err_and}
use Rattle.plan_ratios.specs.declared.RatiosError.TheVariants.{TooFew}
use Rattle.plan_ratios.specs.Ratios.{empty}
use Rattle.plan_ratios.proofs.WalkLaws.{none_filled, text_refused, text_few, text_enough}
use Rattle.plan_ratios.proofs.read_ratios.Goals as goal

pub take_text-requires : goal.take_text-requires
unfolding empty of_bits
take_text-requires c = none_filled c.args.slots _ refl refl c.min.ensures

pub returns-in_err-take_text : goal.returns-in_err-take_text
returns-in_err-take_text c =
    let p = err_from_is_err_and c.from_residual.result c.from_residual.ensures.1 in
    rw (p.1, p.2) (sym (text_refused c.args.text.now c.args.slots _ _ refl refl c.min.ensures _ c.in_err-take_text.ensures))

pub returns-then-read : goal.returns-then-read
returns-then-read c =
    ap (λ (n : ℕ). Err (TooFew n c.take_text.new.self.count)) c.count_lines-line.ensures
    ∙ sym (text_few c.args.text.now c.args.slots _ _ refl refl c.min.ensures _ c.in_ok-take_text.ensures c.if-read.true)

pub returns : goal.returns
returns c = sym (text_enough c.args.text.now c.args.slots _ _ refl refl c.min.ensures _ c.in_ok-take_text.ensures c.if-read.false)
