-- `encoder_bit_demand::snr_row` meets its contract: antt finds the row of each key, and no row has other steps.
use native.Mathlib.Omega.{arith}
use lib.Count.{leading_le}
use borrow.Author.Rules.{rules}
use Rattle.encoder_bit_demand.specs.Snr.{row_number}
use Rattle.encoder_bit_demand.proofs.SnrLaws.{long_row, no_row}
use Rattle.encoder_bit_demand.proofs.snr_row.Goals as goal

pub overflow_sub-result : goal.overflow_sub-result
overflow_sub-result c = omega (arith, leading_le 32 c.args.nb_steps)

pub returns-in-0 : goal.returns-in-0
unfolding row_number
returns-in-0 c = rw c.in-0.is

pub returns-in-3 : goal.returns-in-3
unfolding row_number
returns-in-3 c = rw c.in-3.is

pub returns-in-5 : goal.returns-in-5
unfolding row_number
returns-in-5 c = rw c.in-5.is

pub returns-in-7 : goal.returns-in-7
unfolding row_number
returns-in-7 c = rw c.in-7.is

pub returns-in-9 : goal.returns-in-9
unfolding row_number
returns-in-9 c = rw c.in-9.is

pub returns-in-15 : goal.returns-in-15
returns-in-15 c = long_row _ c.in-15.is

pub returns-in_default : goal.returns-in_default
returns-in_default c =
    no_row _ (search rules) (search rules) (search rules) (search rules) (search rules) (search rules)
