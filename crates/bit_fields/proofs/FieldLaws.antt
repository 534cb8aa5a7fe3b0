-- Laws of numbers side by side: where they fit, they are put together by a product and taken apart by a quotient.
use mathlib.Core.Path.{◌≡◌, ap, ◌∙◌}
use Prim.Native.Nat.{ℕ, ◌+◌, ◌-◌, ◌*◌, ◌/◌, ◌%◌, ◌^◌, ◌≤◌, ◌<◌}
use native.Mathlib.Nat.{one-mul, mod-eq_of_lt}
use native.Mathlib.Omega.{arith}
use lib.Bits.{bit_or, bit_and, or_shifted, and_mask}
use lib.Dec.{lit<}
use lib.Pow.{shl_exact}
use Rattle.bit_fields.specs.Fields.{joined, upper, lower}

-- a width below 32 counts as it is
as_it_is : (width : ℕ) → width < 32 → width % 32 ≡ width
as_it_is width h = mod-eq_of_lt h

pub joined_is : (high low width : ℕ) → high < 256 → width ≤ 8 → low < 2 ^ width → joined high low width ≡ high * 2 ^ width + low
joined_is high low width h w l =
    ap (λ (k : ℕ). bit_or (high * 2 ^ k % 2 ^ 32) low) (as_it_is width (omega arith))
    ∙ ap (λ (m : ℕ). bit_or m low) (shl_exact {a = high} 8 width 32 h (omega arith)) ∙ or_shifted high width low l

pub upper_is : (n width : ℕ) → width < 32 → upper n width ≡ n / 2 ^ width
upper_is n width h = ap (λ (k : ℕ). n / 2 ^ k) (as_it_is width h)

pub lower_is : (n width : ℕ) → width < 32 → lower n width ≡ n % 2 ^ width
lower_is n width h = ap (λ (k : ℕ). n % 2 ^ k) (as_it_is width h)

-- ---- for `below`: one shifted by fewer than 32

pub one_shifted : (width : ℕ) → width < 32 → 1 * 2 ^ width % 2 ^ 32 ≡ 2 ^ width
one_shifted width h = shl_exact {a = 1} 1 width 32 (lit< tt) (omega arith) ∙ one-mul (2 ^ width)

pub masked : (n width : ℕ) → width < 32 → bit_and n (1 * 2 ^ width % 2 ^ 32 - 1) ≡ n % 2 ^ width
masked n width h = ap (λ (m : ℕ). bit_and n (m - 1)) (one_shifted width h) ∙ and_mask n width
