-- Sample codes of Layer II: ISO/IEC 11172-3 2.4.3.3.4, the decoder's s'' = C * (s''' + D) read backwards.
-- s''' is a fraction of n bits, the first of weight -1: k / h with h = 2 ^ (n - 1) and a whole k from -h up. The code, s''' with its first
-- bit inverted, is k + h.
use Rattle.std.specs.Prelude.{◌≡◌, ℕ, ◌+◌, ◌-◌, ◌*◌, ◌/◌, ◌%◌, ◌^◌, ◌≤◌, min, cond, List, [], ◌∷◌, ℤ, pos, slice_index_or, Float}
use Rattle.std.specs.Float.{nan, inf, fin, binary64}
use Rattle.std.specs.Float.Ieee.{up, down, div, sub, mul, of_int}
use Rattle.quantization.specs.declared.QuantClass.{QuantClass}
use Rattle.quantization.specs.Classes.{bits_per_sample}
use Rattle.encoder_samples.specs.declared.Triplet.{Triplet}

-- h, for a number of steps; n is the bits per sample (where it is 0, which no class has, h is 1)
unfoldable pub half : ℕ → ℕ
half steps = 2 ^ (bits_per_sample steps - 1)

-- k before it is a whole number: (s'' / C - D) * h, each of the three operations rounded to binary64
unfoldable pub scaled : QuantClass → Float → Float
scaled q sample = mul binary64 (sub binary64 (div binary64 sample q.c) q.d) (of_int binary64 (pos (half q.nb_steps)))

-- the whole number nearest to m * 2 ^ e, from halfway between two the larger: m * 2 ^ e + 1/2 without its fraction
abbrev pub nearest_whole : ℕ → ℤ → ℕ
nearest_whole m e = (m * up e * 2 + down e) / (down e * 2)

-- the code of k = v: the whole number nearest to v, halves away from zero, NaN as 0, plus h, and no less than 0 and no more than `last`
unfoldable pub clamped : ℕ → ℕ → Float → ℕ
clamped last h nan = min h last
clamped last h (inf s) = cond s 0 last
clamped last h (fin s m e) = min (cond s (h - nearest_whole m e) (h + nearest_whole m e)) last

-- the code of a sample in a class whose codes end at `last`
unfoldable pub code_to : ℕ → QuantClass → Float → ℕ
code_to last q sample = clamped last (half q.nb_steps) (scaled q sample)

-- the last code: of a grouped class the last step, of any other the pattern of n ones
unfoldable pub last_code : QuantClass → ℕ
last_code q = cond q.grouping (q.nb_steps - 1) (2 * half q.nb_steps - 1)

-- the code of a sample in a class
unfoldable pub quantized : QuantClass → Float → ℕ
quantized q sample = code_to (last_code q) q sample

-- ---- three consecutive samples

-- grouping: three codes in one number, each a digit below the number of steps, the first the lowest
abbrev pub combined : ℕ → ℕ → ℕ → ℕ → ℕ
combined steps a b c = a + steps * b + steps * steps * c

-- one codeword of a width, and 0 in the two places that are not used; or three
abbrev pub one_codeword : ℕ → ℕ → Triplet
one_codeword width a = record { count = 1; width = width; codewords = a ∷ 0 ∷ 0 ∷ [] }

abbrev pub three_codewords : ℕ → ℕ → ℕ → ℕ → Triplet
three_codewords width a b c = record { count = 3; width = width; codewords = a ∷ b ∷ c ∷ [] }

-- the codewords of three codes: the one that combines them, as 32 bits hold it, or the codes themselves
abbrev pub codewords_of : QuantClass → ℕ → ℕ → ℕ → Triplet
codewords_of q a b c =
    cond q.grouping
    (one_codeword q.bits_per_codeword (combined q.nb_steps a b c % 2 ^ 32))
    (three_codewords q.bits_per_codeword a b c)

-- the codewords of three samples in a class
unfoldable pub triplet : QuantClass → List Float → Triplet
triplet q samples = codewords_of q (quantized q (slice_index_or samples 0 nan)) (quantized q (slice_index_or samples 1 nan)) (quantized q (slice_index_or samples 2 nan))

-- ---- what the functions promise

pub record NearestIs (x : Float) (r : ℕ) : Type 0 where
  pub whole : r ≡ clamped (2 ^ 32) 0 x
  pub most : r ≤ 2 ^ 32
