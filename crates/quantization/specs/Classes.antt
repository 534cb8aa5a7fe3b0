-- The classes of quantization: Table 3-B.4 of ISO/IEC 11172-3.
use Rattle.std.specs.Prelude.{ℕ, ◌+◌, ◌-◌, ◌*◌, ◌/◌, ◌^◌, ◌≤◌, ◌≡◌, Bool, true, false, List, [], ◌∷◌, eqb, Option, None, Some}
use Rattle.std.specs.Float.Ieee.{size}
use Rattle.tables.specs.Decimal.{decimal}
use Rattle.tables.specs.Search.{find}
use Rattle.quantization.specs.declared.QuantClass.{QuantClass}

-- a row of the table: number of steps, C, D, grouping, samples per codeword, bits per codeword; C and D have eleven decimal places
unfoldable pub class : ℕ → ℕ → ℕ → Bool → ℕ → ℕ → QuantClass
unfolding decimal
class steps c d grouping samples bits = record {
  nb_steps = steps;
  c = decimal 11 c;
  d = decimal 11 d;
  grouping = grouping;
  samples_per_codeword = samples;
  bits_per_codeword = bits;
}

unfoldable pub classes : List QuantClass
unfolding class
classes =
    class 3 1_33333333333 0_50000000000 true 3 5
    ∷ class 5 1_60000000000 0_50000000000 true 3 7
    ∷ class 7 1_14285714286 0_25000000000 false 1 3
    ∷ class 9 1_77777777777 0_50000000000 true 3 10
    ∷ class 15 1_06666666666 0_12500000000 false 1 4
    ∷ class 31 1_03225806452 0_06250000000 false 1 5
    ∷ class 63 1_01587301587 0_03125000000 false 1 6
    ∷ class 127 1_00787401575 0_01562500000 false 1 7
    ∷ class 255 1_00392156863 0_00781250000 false 1 8
    ∷ class 511 1_00195694716 0_00390625000 false 1 9
    ∷ class 1023 1_00097751711 0_00195312500 false 1 10
    ∷ class 2047 1_00048851979 0_00097656250 false 1 11
    ∷ class 4095 1_00024420024 0_00048828125 false 1 12
    ∷ class 8191 1_00012208522 0_00024414063 false 1 13
    ∷ class 16383 1_00006103888 0_00012207031 false 1 14
    ∷ class 32767 1_00003051851 0_00006103516 false 1 15
    ∷ class 65535 1_00001525902 0_00003051758 false 1 16
    ∷ []

-- the class of a number of steps
unfoldable pub class_of : ℕ → Option QuantClass
unfolding classes
class_of steps = find (λ q. eqb q.nb_steps steps) classes

-- the table's column 'grouping'
abbrev pub grouping_in : Option QuantClass → Bool
grouping_in None = false
grouping_in (Some q) = q.grouping

unfoldable pub grouped : ℕ → Bool
unfolding class_of
grouped steps = grouping_in (class_of steps)

-- the bits of one sample: as many binary digits as the last of the codes 0 to steps - 1 has
unfoldable pub bits_per_sample : ℕ → ℕ
unfolding size
bits_per_sample steps = size (steps - 1)

-- The bits of a subband's 36 samples in a frame: 36 / samples per codeword codewords. No bits where there is no such class
abbrev pub frame_bits : Option QuantClass → ℕ
frame_bits None = 0
frame_bits (Some q) = 36 / q.samples_per_codeword * q.bits_per_codeword

unfoldable pub sample_bits : ℕ → ℕ
unfolding class_of
sample_bits steps = frame_bits (class_of steps)

-- The rule of every class. One sample to a codeword: its steps are all but one of the codeword's patterns. Three samples: all triplets of
-- steps have a pattern. A frame's 36 samples take 576 bits at most.
pub record ClassRule (q : QuantClass) : Type 0 where
  pub least : 3 ≤ q.nb_steps
  pub most : q.bits_per_codeword ≤ 16
  pub single : q.grouping ≡ false → (q.samples_per_codeword ≡ 1) × (q.nb_steps + 1 ≡ 2 ^ q.bits_per_codeword)
  pub triple : q.grouping ≡ true
      → (q.samples_per_codeword ≡ 3) × (q.nb_steps * q.nb_steps * q.nb_steps ≤ 2 ^ q.bits_per_codeword)
  pub frame : 36 / q.samples_per_codeword * q.bits_per_codeword ≤ 576

-- ---- what the functions promise

pub record ClassIs (steps : ℕ) (r : Option QuantClass) : Type 0 where
  pub whole : r ≡ class_of steps
  pub ruled : (q : QuantClass) → r ≡ Some q → (q.nb_steps ≡ steps) × ClassRule q

pub record BitsPerSampleAre (steps r : ℕ) : Type 0 where
  pub whole : r ≡ bits_per_sample steps
  pub most : r ≤ 32

pub record SampleBitsAre (steps r : ℕ) : Type 0 where
  pub whole : r ≡ sample_bits steps
  pub small : r ≤ 576
