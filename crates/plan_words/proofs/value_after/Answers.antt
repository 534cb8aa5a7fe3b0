-- `plan_words::value_after` meets its contract.
use Rattle.plan_text.proofs.ByteLaws.{same_is}
use Rattle.plan_words.specs.Word.{value_after}
use Rattle.plan_words.proofs.value_after.Goals as goal

pub returns-in_err-strip_prefix : goal.returns-in_err-strip_prefix
unfolding value_after
returns-in_err-strip_prefix c = rw (same_is, c.in_err-strip_prefix.ensures.cases) c.from_residual.ensures

pub returns : goal.returns
unfolding value_after
returns c = rw (same_is, c.in_ok-strip_prefix.ensures.cases.0, ← c.in_ok-strip_prefix.ensures.cases.1) c.read_number.ensures
