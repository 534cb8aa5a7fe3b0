-- The record of a frame's side information before anything is allocated, in a layout and in none.
use Rattle.std.specs.Prelude.{ℕ, replicate}
use Rattle.bitalloc.specs.declared.BitAllocTable.{BitAllocTable}
use Rattle.bitalloc.specs.declared.BitAllocTable.TheVariants.{B2a}
use Rattle.layout.specs.declared.Layout.{Layout}
use Rattle.layout.specs.Layout.{limit_of}
use Rattle.audio_data.specs.declared.Scfsi.TheVariants.{ThreePerGranule}
use Rattle.audio_data.specs.declared.AudioData.{AudioData}

-- no steps, three scalefactors in each slot, every index 0
abbrev idle : BitAllocTable → ℕ → ℕ → ℕ → AudioData
idle table sblimit bound channels = record {
  table = table;
  sblimit = sblimit;
  bound = bound;
  channels = channels;
  nb_steps = replicate 64 0;
  scfsi = replicate 64 (ThreePerGranule);
  scalefactor = replicate 192 0;
}

-- nothing allocated yet in a layout
unfoldable pub fresh : Layout → AudioData
fresh l = idle l.table (limit_of l) l.bound l.channels

-- nothing allocated, in no layout
unfoldable pub filler : AudioData
filler = idle B2a 0 0 0
