-- `quantization::sample_bits_for` meets its contract: antt computes the bits at the keys, and no other steps have a class.
use mathlib.Core.Path.{refl}
use lib.Count.{leading_le}
use borrow.Author.Rules.{rules}
use Rattle.quantization.specs.Classes.{sample_bits}
use Rattle.quantization.proofs.ClassLaws.{bits_are, single_bits, no_bits}
use Rattle.quantization.proofs.sample_bits_for.Goals as goal

pub overflow_sub-result : goal.overflow_sub-result
overflow_sub-result c = leading_le 32 _

pub returns-in-3 : goal.returns-in-3
unfolding sample_bits
returns-in-3 c = bits_are _ 60 (rw c.in-3.is refl)

pub returns-in-5 : goal.returns-in-5
unfolding sample_bits
returns-in-5 c = bits_are _ 84 (rw c.in-5.is refl)

pub returns-in-9 : goal.returns-in-9
unfolding sample_bits
returns-in-9 c = bits_are _ 120 (rw c.in-9.is refl)

pub returns-in-7 : goal.returns-in-7
returns-in-7 c = single_bits _ c.in-7.is

pub returns-in_default : goal.returns-in_default
returns-in_default c =
    no_bits _ (search rules) (search rules) (search rules) (search rules)
