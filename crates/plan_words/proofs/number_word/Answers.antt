-- `plan_words::number_word` meets its contract.
use Rattle.plan_words.specs.declared.Setting.TheVariants.{SampleRate, BitRate, Ancillary}
use Rattle.plan_words.specs.Word.{number_word}
use Rattle.plan_words.proofs.OptionLaws.{mapped}
use Rattle.plan_words.proofs.number_word.Goals as goal

pub returns : goal.returns
unfolding number_word
returns c =
    rw (
      c.or-2.ensures,
      c.or.ensures,
      mapped SampleRate _ _ c.map-sample_rate.ensures.cases,
      mapped BitRate _ _ c.map-bit_rate.ensures.cases,
      mapped Ancillary _ _ c.map-ancillary.ensures.cases,
      c.value_after.ensures,
      c.value_after-2.ensures,
      c.value_after-3.ensures,
    )
