-- `c_subband::scalefactors::subband_rows` meets its contract: the chunks of 36 samples are the rows.
use Rattle.c_subband.proofs.SampleLaws.{rows_found}
use Rattle.c_subband.proofs.scalefactors.subband_rows.Goals as goal

pub returns : goal.returns
returns c = rows_found _ _ (λ rows. rows.now) _ c.as_chunks.ensures.front c.first_chunk.ensures.cases
