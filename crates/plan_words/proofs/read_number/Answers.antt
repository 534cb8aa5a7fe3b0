-- `plan_words::read_number` meets its contract.
use Rattle.std.proofs.Common.{sym, ◌∙◌}
use Rattle.plan_words.specs.Word.{number}
use Rattle.plan_words.proofs.WordLaws.{fits, unread, read}
use Rattle.plan_words.proofs.read_number.Goals as goal

pub returns-then-is_empty : goal.returns-then-is_empty
unfolding number
returns-then-is_empty c = rw (sym c.is_empty.ensures ∙ c.if-is_empty.true)

pub returns-in_err-read_digits : goal.returns-in_err-read_digits
returns-in_err-read_digits c =
    c.from_residual.ensures ∙ unread _ (sym c.is_empty.ensures ∙ c.if-is_empty.false) c.in_err-read_digits.ensures

pub returns : goal.returns
returns c =
    c.ok.ensures.value
    ∙ fits _ _ c.try_from.ensures
    ∙ read _ (sym c.is_empty.ensures ∙ c.if-is_empty.false) _ c.in_ok-read_digits.ensures
