-- `audio_data::AudioData::filler` meets its contract: the record is the definition's, by computation.
use mathlib.Core.Path.{refl}
use Rattle.audio_data.specs.Record.{filler}
use Rattle.audio_data.proofs.AudioData.filler.Goals as goal

pub returns : goal.returns
unfolding filler
returns c = refl
