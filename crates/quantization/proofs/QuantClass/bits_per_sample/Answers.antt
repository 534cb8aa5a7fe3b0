-- `quantization::QuantClass::bits_per_sample` meets its contract: what is left of 32 digits without the leading zeros.
use borrow.Author.Rules.{rules}
use lib.Count.{leading_le}
use Rattle.quantization.proofs.ClassLaws.{bits_counted}
use Rattle.quantization.proofs.QuantClass.bits_per_sample.Goals as goal

pub overflow_sub-result : goal.overflow_sub-result
overflow_sub-result c = leading_le 32 _

pub returns : goal.returns
returns c = rw c.saturating_sub-last.ensures (bits_counted _ (search rules))
