-- `encoder_samples::group_combined` meets its contract: one digit after the other makes the number of three digits.
use Rattle.std.proofs.Common.{ℕ, ◌+◌, ◌*◌, ◌%◌, ◌^◌, ap, ◌∙◌}
use Rattle.encoder_samples.proofs.Grouping.{digit_by_digit}
use Rattle.encoder_samples.proofs.group_combined.Goals as goal

pub returns : goal.returns
returns c =
    let n = c.args.nb_steps in
    let a = c.args.first in
    c.next_digit.ensures ∙ ap (λ (i : ℕ). (i * n + a) % 2 ^ 32) c.next_digit-upper.ensures ∙ digit_by_digit _ _ _ _ _
