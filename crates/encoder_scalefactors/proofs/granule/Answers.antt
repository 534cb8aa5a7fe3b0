-- `encoder_scalefactors::granule` meets its contract: it lists the index of each subband.
use borrow.Author.Rules.{rules}
use Rattle.tables.proofs.FromFn.{tabulated_from_fn}
use Rattle.encoder_scalefactors.specs.Indices.{index_at, granule_of}
use Rattle.encoder_scalefactors.proofs.granule.Goals as goal

pub returns : goal.returns
unfolding granule_of
returns c =
    let a = c.args in
    tabulated_from_fn (index_at a.subband_samples.now a.sblimit a.g) 32 0 _ c.from_fn.ensures.items (λ k y q l m. search rules)
