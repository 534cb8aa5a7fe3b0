-- Numbers side by side in a word of 32 bits. A width counts modulo 32.
use Rattle.std.specs.Prelude.{ℕ, ◌*◌, ◌/◌, ◌%◌, ◌^◌}
use Rattle.std.specs.Int.Bits.{bit_or}

-- a number above the last `width` bits of a word, and another in them
abbrev pub joined : ℕ → ℕ → ℕ → ℕ
joined high low width = bit_or (high * 2 ^ (width % 32) % 2 ^ 32) low

-- what stands above the last `width` bits, and in them
abbrev pub upper : ℕ → ℕ → ℕ
upper n width = n / 2 ^ (width % 32)

abbrev pub lower : ℕ → ℕ → ℕ
lower n width = n % 2 ^ (width % 32)
