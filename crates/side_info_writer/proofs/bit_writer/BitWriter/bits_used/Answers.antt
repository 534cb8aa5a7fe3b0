-- `BitWriter::bits_used` meets its contract.
use mathlib.Core.Path.{ap, ◌∙◌}
use lib.ListN.{length}
use Rattle.side_info_writer.proofs.WriterLaws.{used}
use Rattle.side_info_writer.proofs.bit_writer.BitWriter.bits_used.Goals as goal

pub returns : goal.returns
returns c = used c.self.inside c.self.invariant ∙ ap length c.self.view_is
