-- `audio_data::AudioData::new` meets its contract: the layout's parts, and the rest as beside a refusal.
use Rattle.audio_data.specs.Record.{fresh, filler}
use Rattle.audio_data.proofs.AudioData.new.Goals as goal

pub returns : goal.returns
unfolding fresh filler
returns c = rw (c.sblimit.ensures.whole, c.filler.ensures)
