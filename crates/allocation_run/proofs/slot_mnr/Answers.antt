-- `allocation_run::slot_mnr` meets its contract: what `snr_db` finds is the definition's SNR.
use lib.Ieee.{of_bits, div, sub}
use borrow.Author.Rules.{rules}
use borrow.Author.Tests.{eq-eqb}
use Rattle.allocation_run.proofs.LaidLaws.{slot_mapped}
use Rattle.allocation_run.proofs.slot_mnr.Goals as goal

pub returns-then-nb_steps-eq0 : goal.returns-then-nb_steps-eq0
returns-then-nb_steps-eq0 c = rw (eq-eqb _ _ c.if-nb_steps-eq0.true)

pub returns : goal.returns
unfolding div of_bits sub
returns c = slot_mapped _ c.args.smr _ _ c.if-nb_steps-eq0.false c.snr_db.ensures _ c.map_or.ensures (λ x k. search rules)
