-- `encoder_scalefactors::compute_scalefactors` meets its contract: it is its three granules.
use Rattle.encoder_scalefactors.specs.Indices.{indices_of}
use Rattle.encoder_scalefactors.proofs.compute_scalefactors.Goals as goal

pub returns : goal.returns
unfolding indices_of
returns c = rw (c.granule.ensures, c.granule-2.ensures, c.granule-3.ensures)
