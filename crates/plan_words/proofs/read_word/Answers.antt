-- `plan_words::read_word` meets its contract.
use Rattle.std.proofs.Common.{ap₂, refl, ◌++◌, ◌∙◌}
use Rattle.std.specs.Option.{option_or}
use Rattle.plan_words.specs.Word.{mode_words, bound_words, flag_words, meaning}
use Rattle.plan_words.proofs.NamedLaws.{found}
use Rattle.plan_words.proofs.read_word.Goals as goal

pub returns : goal.returns
unfolding meaning mode_words bound_words flag_words
returns c =
    c.or.ensures
    ∙ ap₂ option_or c.look_up.ensures c.number_word.ensures
    ∙ found _ _ _ (mode_words ++ bound_words ++ flag_words) refl
