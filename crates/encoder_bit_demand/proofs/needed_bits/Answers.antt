-- `encoder_bit_demand::needed_bits` meets its contract: a ratio of at most 0 needs nothing, and any other the bits of the steps found.
use mathlib.Core.Path.{◌∙◌}
use borrow.Author.Rules.{rules}
use lib.Ieee.{of_bits}
use Rattle.encoder_bit_demand.proofs.DemandLaws.{nothing, something}
use Rattle.encoder_bit_demand.proofs.needed_bits.Goals as goal

pub returns-then-smr : goal.returns-then-smr
unfolding of_bits
returns-then-smr c = record { whole = nothing _ _ _ c.if-smr.true; most = search rules }

pub returns : goal.returns
unfolding of_bits
returns c =
    record {
      whole = c.from.ensures ∙ something _ _ _ _ _ c.if-smr.false c.needed_steps-steps.ensures c.sample_bits_for.ensures.whole;
      most = search rules;
    }
