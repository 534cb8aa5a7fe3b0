-- `plan_words::read_words` meets its contract.
use Rattle.std.proofs.Common.{ap, sym, ◌∙◌, le_of_lt}
use Rattle.std.specs.Prelude.{Err}
use Rattle.std.proofs.lemmas.Result.{err_from_is_err_and}
use Rattle.plan_text.proofs.ByteLaws.{found_most}
use Rattle.plan_words.specs.Line.{is_end, words_of}
use Rattle.plan_words.proofs.OptionLaws.{present, missing}
use Rattle.plan_words.proofs.LineLaws.{none_given, at_unknown, at_twice, at_once, at_last}
use Rattle.plan_words.proofs.read_words.Goals as goal

pub loop-at-init : goal.loop-at-init
unfolding words_of
loop-at-init c =
    let e = c.default-settings.ensures in
    rw (none_given _ e.0 e.1.0 e.1.1.0 e.1.1.1.0 e.1.1.1.1.0 e.1.1.1.1.1.0 e.1.1.1.1.1.1.0 e.1.1.1.1.1.1.1)

pub slice_bounds-read_word-end : goal.slice_bounds-read_word-end
slice_bounds-read_word-end c =
    found_most is_end _ c.loop-at.at _ (le_of_lt c.loop-at-test.true) c.find_byte-end.ensures

pub returns-in_err-setting : goal.returns-in_err-setting
returns-in_err-setting c =
    let p = err_from_is_err_and c.from_residual.result c.from_residual.ensures.1 in
    let m = missing _ _ _ c.in_err-setting.ensures.value in
    p.1
    ∙ ap Err (p.2 ∙ m.1)
    ∙ sym
    (at_unknown _ _ _ _ c.loop-at-test.true c.find_byte-end.ensures c.loop-at.invariant (sym m.0 ∙ c.read_word.ensures))

pub returns-in_err-settings : goal.returns-in_err-settings
returns-in_err-settings c =
    let p = err_from_is_err_and c.from_residual-in_err-settings.result c.from_residual-in_err-settings.ensures.1 in
    let m = missing _ _ _ c.in_err-settings.ensures.value in
    p.1
    ∙ ap Err (p.2 ∙ m.1)
    ∙ sym
    (at_twice _ _ _ _ c.loop-at-test.true c.find_byte-end.ensures c.loop-at.invariant _
    (sym (present _ _ _ c.in_ok-setting.ensures.value) ∙ c.read_word.ensures) (sym m.0 ∙ c.with.ensures))

pub loop-at-preserved : goal.loop-at-preserved
loop-at-preserved c =
    at_once _ _ _ _ c.loop-at-test.true c.find_byte-end.ensures c.loop-at.invariant _
    (sym (present _ _ _ c.in_ok-setting.ensures.value) ∙ c.read_word.ensures) _ _ c.past-at.ensures
    (sym (present _ _ _ c.in_ok-settings.ensures.value) ∙ c.with.ensures)

pub returns : goal.returns
returns c = c.finished.ensures ∙ sym (c.loop-at.invariant ∙ at_last _ _ _ c.loop-at-test.false)
