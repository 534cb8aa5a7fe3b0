-- The codewords of three codes. The number of three digits is worked out one digit after the other and cut to 32 bits each time.
use Rattle.std.proofs.Common.{◌≡◌, ℕ, ◌+◌, ◌-◌, ◌*◌, ◌/◌, ◌%◌, ◌^◌, ◌<◌, Bool, true, false, cond, List, get_or, sym, ap, ◌∙◌, mul-le-mul, arith}
use native.Mathlib.Nat.{mod-add-div, add-mul-mod_self_left}
use lib.Ieee.{Float, nan}
use Rattle.quantization.specs.declared.QuantClass.{QuantClass}
use Rattle.encoder_samples.specs.Samples.{quantized, combined, one_codeword, three_codewords, triplet}

-- a product of two 32-bit numbers and one more fit 64 bits
pub digit_fits : (a b d : ℕ) → a < 2 ^ 32 → b < 2 ^ 32 → d < 2 ^ 32 → a * b + d < 2 ^ 64
digit_fits a b d A B D =
    omega (arith, mul-le-mul {n₁ = a} {m₁ = b} {n₂ = 2 ^ 32 - 1} {m₂ = 2 ^ 32 - 1} (omega arith) (omega arith))

-- what is cut off before the next digit is added would be cut off after
cut_once : (m s a x : ℕ) → (x % m * s + a) % m ≡ (x * s + a) % m
cut_once m s a x =
    let e : x * s + a ≡ x % m * s + a + m * (x / m * s) =
    ap (λ (i : ℕ). i * s + a) (sym (mod-add-div x m)) ∙ omega arith in
    sym (ap (λ (i : ℕ). i % m) e ∙ add-mul-mod_self_left (x % m * s + a) m (x / m * s))

pub digit_by_digit : (m s a b c : ℕ) → ((c * s + b) % m * s + a) % m ≡ combined s a b c % m
digit_by_digit m s a b c = cut_once m s a (c * s + b) ∙ ap (λ (i : ℕ). i % m) (omega arith)

-- ---- the triplet of three codes that are those of its samples

taken : {A : Type 0} (b : Bool) (x y : A) → b ≡ true → x ≡ cond b x y
taken b x y e = rw e

left : {A : Type 0} (b : Bool) (x y : A) → b ≡ false → y ≡ cond b x y
left b x y e = rw e

module _
    (q : QuantClass)
    (samples : List Float)
    (a b c : ℕ)
    (A : a ≡ quantized q (get_or samples 0 nan))
    (B : b ≡ quantized q (get_or samples 1 nan))
    (C : c ≡ quantized q (get_or samples 2 nan))
  where
    pub one_codeword_lem : (w : ℕ) → q.grouping ≡ true → w ≡ combined q.nb_steps a b c % 2 ^ 32
        → one_codeword q.bits_per_codeword w ≡ triplet q samples
    unfolding triplet
    one_codeword_lem w e W = rw (W, A, B, C) (taken q.grouping _ _ e)

    pub three_codewords_lem : q.grouping ≡ false → three_codewords q.bits_per_codeword a b c ≡ triplet q samples
    unfolding triplet
    three_codewords_lem e = rw (A, B, C) (left q.grouping _ _ e)
