-- `BitReader::new` meets its contract: all bits are ahead.
use mathlib.Core.Path.{refl}
use Rattle.bit_string.specs.Bits.{bits_of}
use Rattle.side_info_reader.specs.BitReader.{bits_ahead}
use Rattle.side_info_reader.proofs.bit_reader.BitReader.new.Goals as goal

pub returns : goal.returns
unfolding bits_ahead bits_of
returns c = record { all = refl; ahead = refl }
