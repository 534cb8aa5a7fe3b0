-- `plan_words::Settings::finished` meets its contract.
use Rattle.std.proofs.lemmas.Result.{err_from_is_err_and}
use Rattle.plan_words.specs.Line.{finished}
use Rattle.plan_words.proofs.OptionLaws.{present, missing}
use Rattle.plan_words.proofs.Settings.finished.Goals as goal

pub returns-in_err-sample_rate : goal.returns-in_err-sample_rate
unfolding finished
returns-in_err-sample_rate c =
    let p = err_from_is_err_and c.from_residual.result c.from_residual.ensures.1 in
    let m = missing _ _ _ c.in_err-sample_rate.ensures.value in
    rw (p.1, p.2, m.0, m.1)

pub returns-in_err-bit_rate : goal.returns-in_err-bit_rate
unfolding finished
returns-in_err-bit_rate c =
    let p = err_from_is_err_and c.from_residual-in_err-bit_rate.result c.from_residual-in_err-bit_rate.ensures.1 in
    let m = missing _ _ _ c.in_err-bit_rate.ensures.value in
    rw (p.1, p.2, present _ _ _ c.in_ok-sample_rate.ensures.value, m.0, m.1)

pub returns : goal.returns
unfolding finished
returns c =
    rw (
      present _ _ _ c.in_ok-sample_rate.ensures.value,
      present _ _ _ c.in_ok-bit_rate.ensures.value,
      c.unwrap_or.ensures,
      c.unwrap_or-2.ensures,
      c.unwrap_or-3.ensures,
      c.unwrap_or-4.ensures,
      c.unwrap_or-5.ensures,
      c.unwrap_or-6.ensures,
    )
