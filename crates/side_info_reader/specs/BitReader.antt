-- The bits that a reader of bits has ahead.
-- For the contracts of private functions alone: nothing that a caller has to believe stands here.
use Rattle.std.specs.Prelude.{◌*◌, ◌^◌, ◌≤◌, ◌<◌, ◌++◌, length, drop}
use Rattle.bit_string.specs.Bits.{bits_of, unpacked}
use Rattle.side_info_reader.specs.Ahead.{Ahead}
use Rattle.side_info_reader.specs.declared.bit_reader.BitReader.TheInside.{Inside}

-- those held, then those of the bytes that are not taken
unfoldable pub bits_ahead : Inside → Ahead
bits_ahead r = record { all = unpacked r.bytes.now; ahead = bits_of r.count r.held ++ unpacked (drop r.at r.bytes.now) }

-- the bits held are fewer than eight, and of the bytes taken
pub record Steady (r : Inside) : Type 0 where
  pub few : r.count < 8
  pub small : r.held < 2 ^ r.count
  pub taken : r.count ≤ 8 * r.at
  pub within : r.at ≤ length r.bytes.now
