-- What a writer of bits has written.
-- For the contracts of private functions alone: nothing that a caller has to believe stands here.
use Rattle.std.specs.Prelude.{◌+◌, ◌*◌, ◌^◌, ◌≤◌, ◌<◌, ◌≡◌, Bool, List, ◌++◌, take}
use Rattle.bit_string.specs.Bits.{bits_of, packed, unpacked}
use Rattle.side_info_writer.specs.declared.bit_writer.BitWriter.TheInside.{Inside}

-- the bits of the full bytes
abbrev pub stored : Inside → List Bool
stored w = take (8 * w.at) (unpacked w.bytes)

-- those, and then the bits held
unfoldable pub bits_written : Inside → List Bool
bits_written w = stored w ++ bits_of w.count w.held

-- the bits held are fewer than eight, there is room for them, and behind the full bytes stand zeros
pub record Steady (w : Inside) : Type 0 where
  pub few : w.count < 8
  pub small : w.held < 2 ^ w.count
  pub room : 8 * w.at + w.count ≤ 1392
  pub zeros : w.bytes ≡ packed 174 (stored w)
