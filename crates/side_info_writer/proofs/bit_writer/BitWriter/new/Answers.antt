-- `BitWriter::new` meets its contract.
use mathlib.Core.Path.{refl}
use Rattle.side_info_writer.proofs.WriterLaws.{begun, nothing_written}
use Rattle.side_info_writer.proofs.bit_writer.BitWriter.new.Goals as goal

pub invariant_of-result : goal.invariant_of-result
invariant_of-result c = begun _ refl

pub returns : goal.returns
returns c = nothing_written _ refl
