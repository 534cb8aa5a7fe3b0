-- `encoder_bit_demand::reaches` meets its contract: what `snr_db` found is the ratio, and without one nothing is reached.
use borrow.Author.Rules.{rules}
use Rattle.encoder_bit_demand.proofs.SnrLaws.{reached_by}
use Rattle.encoder_bit_demand.proofs.reaches.Goals as goal

pub returns : goal.returns
returns c = reached_by c.args.steps c.args.smr _ _ c.snr_db.ensures _ c.is_some_and.ensures (λ x k. search rules)
