-- The range of the codes and of the codewords, by one argument for any class that keeps the rule of the classes of quantization.
use Rattle.std.proofs.Common.{◌≡◌, ℕ, zero, suc, ◌-◌, ◌*◌, ◌%◌, ◌^◌, ◌<◌, ◌≤◌, Bool, true, false, cond, List, [], ◌∷◌, get_or, refl, ap, le_trans, le_refl, lt_of_lt_of_le, mod-eq_of_lt, mul_assoc, mul-le-mul_left, mul-pos, pow-suc, mul-suc, le-mul_of_pos_right, arith, lit≤, pow_pos, pow_mono}
use native.Mathlib.Nat.{min-le_right}
use lib.Ieee.{Float, nan, inf, fin}
use lib.Ieee.Digits.{size-lt, size-le}
use Rattle.quantization.specs.declared.QuantClass.{QuantClass}
use Rattle.quantization.specs.Classes.{bits_per_sample, BitsPerSampleAre, ClassRule}
use Rattle.encoder_samples.specs.declared.Triplet.{Triplet}
use Rattle.encoder_samples.specs.Samples.{half, clamped, code_to, last_code, quantized}
use Rattle.encoder_samples.specs.Half.{HalfIs}
use Rattle.encoder_samples.specs.Samples.{combined, one_codeword, three_codewords, codewords_of, triplet}

-- ---- half of the codes

pub half_range : (steps n : ℕ) → BitsPerSampleAre steps n → HalfIs steps (2 ^ (n - 1))
unfolding half
half_range steps n b = record {
  whole = ap (λ (k : ℕ). 2 ^ (k - 1)) b.whole;
  least = pow_pos (n - 1);
  most = pow_mono {i = n - 1} {j = 31} (omega arith);
}

-- ---- a code is at most the last one

clamped_most : (last h : ℕ) (v : Float) → clamped last h v ≤ last
unfolding clamped
clamped_most last h nan = min-le_right _ _
clamped_most last h (inf true) = omega arith
clamped_most last h (inf false) = le_refl _
clamped_most last h (fin s m e) = min-le_right _ _

pub code_at_most : (last : ℕ) (q : QuantClass) (sample : Float) → code_to last q sample ≤ last
unfolding code_to
code_at_most last q sample = clamped_most last _ _

-- ---- the bits of a sample

-- the steps have a pattern among those of n bits
steps_within : (steps : ℕ) → steps ≤ 2 ^ bits_per_sample steps
unfolding bits_per_sample
steps_within steps = let l = size-lt (steps - 1) in omega arith

-- the patterns of n bits are two halves, where n is not 0
two_halves : (steps : ℕ) → 2 ≤ steps → 2 * half steps ≡ 2 ^ bits_per_sample steps
unfolding half
two_halves steps h = go (bits_per_sample steps) (steps_within steps)
  where
    go : (n : ℕ) → steps ≤ 2 ^ n → 2 * 2 ^ (n - 1) ≡ 2 ^ n
    go zero l = absurd (omega arith)
    go (suc k) l = let e : suc k - 1 ≡ k = omega arith in rw (e, pow-suc 2 k) (omega arith)

module _ (q : QuantClass) (rule : ClassRule q) where
  -- the steps have a pattern among those of a codeword
  steps_held_lem : q.nb_steps ≤ 2 ^ q.bits_per_codeword
  steps_held_lem = go q.grouping refl
    where
      go : (b : Bool) → q.grouping ≡ b → q.nb_steps ≤ 2 ^ q.bits_per_codeword
      go true e =
          let p : 0 < q.nb_steps = omega (arith, rule.least) in
          le_trans (le-mul_of_pos_right q.nb_steps (mul-pos p p)) (rw (← mul_assoc) (rule.triple e).1)
      go false e = omega (arith, (rule.single e).1)

  -- a sample has no more bits than a codeword
  bits_within : bits_per_sample q.nb_steps ≤ q.bits_per_codeword
  unfolding bits_per_sample
  bits_within = let l = rule.least in let h = steps_held_lem in size-le (q.nb_steps - 1) _ (omega arith)

  last_most : last_code q ≤ 2 ^ bits_per_sample q.nb_steps - 1
  unfolding last_code
  last_most = go q.grouping
    where
      go : (b : Bool) → cond b (q.nb_steps - 1) (2 * half q.nb_steps - 1) ≤ 2 ^ bits_per_sample q.nb_steps - 1
      go true = omega (arith, steps_within q.nb_steps)
      go false = let e = two_halves q.nb_steps (omega (arith, rule.least)) in omega arith

  -- a code has the bits of a sample
  pub code_most : (sample : Float) → quantized q sample ≤ 2 ^ bits_per_sample q.nb_steps - 1
  unfolding quantized
  code_most sample = le_trans (code_at_most _ _ _) last_most

  -- and those of a codeword
  pub code_below : (sample : Float) → quantized q sample < 2 ^ q.bits_per_codeword
  code_below sample =
      let p = pow_pos (bits_per_sample q.nb_steps) in
      let l = code_most sample in
      lt_of_lt_of_le (omega arith) (pow_mono bits_within)

  -- a code of a grouped class names a step
  pub digit_below : q.grouping ≡ true → (sample : Float) → quantized q sample < q.nb_steps
  unfolding quantized last_code
  digit_below e sample =
      let f : last_code q ≡ q.nb_steps - 1 = ap (λ (b : Bool). cond b (q.nb_steps - 1) (2 * half q.nb_steps - 1)) e in
      omega (arith, rule.least, code_at_most (last_code q) q sample)

-- a code of a class: a codeword holds it, and where three codes share a codeword it names a step
pub record CodeOf (q : QuantClass) (k : ℕ) : Type 0 where
  pub below : k < 2 ^ q.bits_per_codeword
  pub digit : q.grouping ≡ true → k < q.nb_steps

pub is_code : (q : QuantClass) → ClassRule q → (sample : Float) → CodeOf q (quantized q sample)
is_code q rule sample = record { below = code_below q rule sample; digit = λ e. digit_below q rule e sample }

-- ---- codewords

pub three_below : (n a b c : ℕ) → a < n → b < n → c < n → (i : ℕ) → get_or (a ∷ b ∷ c ∷ []) i 0 < n
three_below n a b c A B C zero = A
three_below n a b c A B C (suc zero) = B
three_below n a b c A B C (suc (suc zero)) = C
three_below n a b c A B C (suc (suc (suc i))) = omega arith

-- the number of three digits
combined_below : (s a b c : ℕ) → a < s → b < s → c < s → combined s a b c < s * s * s
combined_below s a b c A B C =
    omega (arith, rw mul-suc at (mul-le-mul_left s B), rw mul-suc at (mul-le-mul_left (s * s) C))

-- at most 3 codewords, of at most 16 bits, and each is held by its bits
pub record Held (t : Triplet) : Type 0 where
  pub few : t.count ≤ 3
  pub narrow : t.width ≤ 16
  pub below : (i : ℕ) → get_or t.codewords i 0 < 2 ^ t.width

module _ (q : QuantClass) (rule : ClassRule q) (a b c : ℕ) (A : CodeOf q a) (B : CodeOf q b) (C : CodeOf q c) where
  -- three digits in one codeword of the class's width
  pub combined_held : q.grouping ≡ true → combined q.nb_steps a b c < 2 ^ q.bits_per_codeword
  combined_held e = lt_of_lt_of_le (combined_below _ _ _ _ (A.digit e) (B.digit e) (C.digit e)) (rule.triple e).1

  -- so 32 bits lose nothing of it
  pub combined_exact : q.grouping ≡ true → combined q.nb_steps a b c % 2 ^ 32 ≡ combined q.nb_steps a b c
  combined_exact e =
      mod-eq_of_lt (lt_of_lt_of_le (combined_held e) (pow_mono {i = q.bits_per_codeword} {j = 32} (omega (arith, rule.most))))

  -- and every codeword is below 2 ^ width
  pub codewords_held : Held (codewords_of q a b c)
  codewords_held = go q.grouping refl
    where
      go : (g : Bool) → q.grouping ≡ g
          → Held (cond g (one_codeword q.bits_per_codeword (combined q.nb_steps a b c % 2 ^ 32))
          (three_codewords q.bits_per_codeword a b c))
      go true e =
          let p = pow_pos q.bits_per_codeword in
          record {
            few = lit≤ tt;
            narrow = rule.most;
            below = three_below _ _ _ _ (rw (combined_exact e) (combined_held e)) p p;
          }
      go false e = record { few = lit≤ tt; narrow = rule.most; below = three_below _ _ _ _ A.below B.below C.below }

pub triplet_held : (q : QuantClass) → ClassRule q → (samples : List Float) → Held (triplet q samples)
unfolding triplet
triplet_held q rule samples =
    codewords_held q rule _ _ _ (is_code q rule (get_or samples 0 nan)) (is_code q rule (get_or samples 1 nan)) (is_code q rule (get_or samples 2 nan))
