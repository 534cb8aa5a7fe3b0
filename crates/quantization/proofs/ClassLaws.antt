-- The rule of the classes of quantization, by one test that antt computes over the table, and what follows for a class that is found.
use Rattle.std.proofs.lemmas.Option.{none-some}
use Rattle.std.specs.Prelude.{Option, None, Some}
use mathlib.Core.Path.{◌≡◌, refl, sym, ap, ◌∙◌, subst}
use mathlib.Core.Bool.{Bool, true, false, not, cond, ◌&&◌, ◌||◌}
use mathlib.Core.List.{List, [], ◌∷◌}
use Prim.Native.Nat.{ℕ, zero, suc, ◌+◌, ◌-◌, ◌*◌, ◌/◌, ◌^◌, ◌≤◌, ◌<◌}
use lib.Dec.{T, leb, eqb, leb→le, eqb→eq, lit≤}
use lib.ListN.{length, get_or}
use lib.Count.{count_leading_zeros, leading_unique}
use lib.Ieee.{size}
use lib.Ieee.Digits.{size-lt, size-le, size_reaches}
use native.Mathlib.Nat.{pow-suc, lt-suc_self}
use native.Mathlib.Omega.{arith}
use borrow.Author.Tests.{eqb-true, eq-eqb, ne_eqb}
use Rattle.tables.specs.Search.{one_of, entry_at}
use Rattle.tables.proofs.Rule.{first, second, all}
use Rattle.tables.proofs.Search.{find_found, find_missing, find_passes, none_passes}
use Rattle.tables.proofs.Keys.{Each, at_key, no_key}
use types.Run.{OneOf}
use Rattle.quantization.specs.declared.QuantClass.{QuantClass}
use Rattle.quantization.specs.Classes.{classes, class_of, ClassRule, ClassIs, BitsPerSampleAre, SampleBitsAre, sample_bits, frame_bits, grouped, grouping_in, bits_per_sample}

-- the rule as one test
ruled : QuantClass → Bool
ruled q =
    let steps = q.nb_steps in
    let samples = q.samples_per_codeword in
    let bits = q.bits_per_codeword in
    leb 3 steps && (leb bits 16 && (leb (36 / samples * bits) 576
    && cond q.grouping (eqb samples 3 && leb (steps * steps * steps) (2 ^ bits)) (eqb samples 1 && eqb (steps + 1) (2 ^ bits))))

computed : T (all ruled classes)
unfolding ruled classes
computed = tt

rule_of : (q : QuantClass) → T (ruled q) → ClassRule q
unfolding ruled
rule_of q t =
    let t₁ = second (leb 3 q.nb_steps) _ t in
    let t₂ = second (leb q.bits_per_codeword 16) _ t₁ in
    let t₃ = second (leb (36 / q.samples_per_codeword * q.bits_per_codeword) 576) _ t₂ in
    record {
      least = leb→le _ _ (first (leb 3 q.nb_steps) _ t);
      most = leb→le _ _ (first (leb q.bits_per_codeword 16) _ t₁);
      single =
          λ e. let u = rw e at t₃ in
          (eqb→eq _ _ (first (eqb q.samples_per_codeword 1) _ u), eqb→eq _ _ (second (eqb q.samples_per_codeword 1) _ u));
      triple =
          λ e. let u = rw e at t₃ in
          (eqb→eq _ _ (first (eqb q.samples_per_codeword 3) _ u), leb→le _ _ (second (eqb q.samples_per_codeword 3) _ u));
      frame = leb→le _ _ (first (leb (36 / q.samples_per_codeword * q.bits_per_codeword) 576) _ t₂);
    }

-- a class that is found has the steps asked for and keeps the rule
pub class_rule : (steps : ℕ) (q : QuantClass) → class_of steps ≡ Some q → (q.nb_steps ≡ steps) × ClassRule q
unfolding class_of
class_rule steps q e =
    let g = find_passes (λ q. eqb q.nb_steps steps) ruled classes q computed e in
    (eqb-true _ _ g.0, rule_of q g.1)

-- ---- what the search in the code finds

class_count : length classes ≡ 17
unfolding classes
class_count = refl

pub class_found : (steps i : ℕ) (qs : List QuantClass) (d : QuantClass) → qs ≡ classes → i < 17
    → ((k : ℕ) → k < i → (get_or qs k d).nb_steps ≡ steps → ⊥) → (get_or qs i d).nb_steps ≡ steps → ClassIs steps (Some (get_or qs i d))
unfolding class_of
class_found steps i qs d e h b q =
    let b' = rw e at b in
    let q' = rw e at q in
    let v : class_of steps ≡ Some (get_or qs i d) =
    find_found (λ q. eqb q.nb_steps steps) classes i d (rw class_count h) (λ k l. ne_eqb _ _ (b' k l)) (eq-eqb _ _ q')
    ∙ ap (λ (qs : List QuantClass). Some (get_or qs i d)) (sym e) in
    record { whole = sym v; ruled = λ p r. class_rule steps p (v ∙ r) }

pub class_missing : (steps : ℕ) (qs : List QuantClass) (d : QuantClass) → qs ≡ classes
    → ((k : ℕ) → k < 17 → (get_or qs k d).nb_steps ≡ steps → ⊥) → ClassIs steps None
unfolding class_of
class_missing steps qs d e b =
    let b' = rw e at b in
    record {
      whole = sym (find_missing (λ q. eqb q.nb_steps steps) classes d (λ k l. ne_eqb _ _ (b' k (rw class_count at l))));
      ruled = λ p r. absurd (none-some p r);
    }

-- ---- the bits of a frame's samples

pub bits_small : (steps : ℕ) → sample_bits steps ≤ 576
unfolding sample_bits
bits_small steps = go (class_of steps) refl
  where
    go : (o : Option QuantClass) → class_of steps ≡ o → frame_bits o ≤ 576
    go None e = lit≤ tt
    go (Some q) e = (class_rule steps q e).1.frame

pub bits_are : (steps r : ℕ) → r ≡ sample_bits steps → SampleBitsAre steps r
bits_are steps r e = record { whole = e; small = rw e (bits_small steps) }

-- the steps of the classes whose codewords hold one sample
abbrev pub singles : List ℕ
singles = 7 ∷ 15 ∷ 31 ∷ 63 ∷ 127 ∷ 255 ∷ 511 ∷ 1023 ∷ 2047 ∷ 4095 ∷ 8191 ∷ 16383 ∷ 32767 ∷ 65535 ∷ []

-- all of their digits are ones
computed_singles : Each (λ n. 36 * (32 - count_leading_zeros 32 n) ≡ sample_bits n) singles
unfolding sample_bits count_leading_zeros
computed_singles = (refl, (refl, (refl, (refl, (refl, (refl, (refl, (refl, (refl, (refl, (refl, (refl, (refl, (refl, tt))))))))))))))

pub single_bits : (steps : ℕ) → OneOf singles steps → SampleBitsAre steps (36 * (32 - count_leading_zeros 32 steps))
single_bits steps h = bits_are steps _ (at_key (λ n. 36 * (32 - count_leading_zeros 32 n) ≡ sample_bits n) singles steps computed_singles h)

keyed : QuantClass → Bool
keyed q = one_of (3 ∷ 5 ∷ 9 ∷ singles) q.nb_steps

computed_keys : T (all keyed classes)
unfolding keyed one_of classes
computed_keys = tt

-- steps that are none of the keys have no class
pub no_bits : (steps : ℕ) → (steps ≡ 3 → ⊥) → (steps ≡ 5 → ⊥) → (steps ≡ 9 → ⊥) → (OneOf singles steps → ⊥) → SampleBitsAre steps 0
unfolding sample_bits class_of keyed one_of
no_bits steps a b c d =
    let h : one_of (3 ∷ 5 ∷ 9 ∷ singles) steps ≡ false =
    rw (ne_eqb steps 3 a, ne_eqb steps 5 b, ne_eqb steps 9 c) (no_key singles steps d) in
    bits_are steps 0
    (sym (ap (λ o. frame_bits (entry_at classes o))
    (none_passes (λ q. eqb q.nb_steps steps) keyed classes computed_keys
    (λ q t. ne_eqb q.nb_steps steps (λ e. subst T h (subst (λ (n : ℕ). T (one_of (3 ∷ 5 ∷ 9 ∷ singles) n)) e t))))))

-- ---- grouping

grouped_among : QuantClass → Bool
grouped_among q = not q.grouping || one_of (3 ∷ 5 ∷ 9 ∷ []) q.nb_steps

groups : T (all grouped_among classes)
unfolding grouped_among one_of classes
groups = tt

-- only 3, 5 and 9 steps are grouped
pub not_grouped : (steps : ℕ) → one_of (3 ∷ 5 ∷ 9 ∷ []) steps ≡ false → false ≡ grouped steps
unfolding grouped class_of grouped_among
not_grouped steps h = go (class_of steps) refl
  where
    never : (q : QuantClass) (b : Bool) → q.grouping ≡ b → q.nb_steps ≡ steps → T (not b || one_of (3 ∷ 5 ∷ 9 ∷ []) q.nb_steps) → false ≡ b
    never q false g e t = refl
    never q true g e t = absurd (subst T (ap (one_of (3 ∷ 5 ∷ 9 ∷ [])) e ∙ h) t)

    go : (o : Option QuantClass) → class_of steps ≡ o → false ≡ grouping_in o
    go None e = refl
    go (Some q) e =
        let g = find_passes (λ q. eqb q.nb_steps steps) grouped_among classes q groups e in
        never q q.grouping refl (eqb-true _ _ g.0) g.1

-- ---- bits per sample

-- a number of n digits is below 2 ^ n, and half of that is at most the number
half_reached : (n : ℕ) → 2 ^ size n ≤ 2 * n + 1
half_reached n = go (size n) refl
  where
    go : (k : ℕ) → size n ≡ k → 2 ^ k ≤ 2 * n + 1
    go zero e = omega arith
    go (suc k) e = rw (pow-suc 2 k) (let l = size_reaches n k (rw e (lt-suc_self k)) in omega arith)

-- the digits of a 32-bit number are those that are not leading zeros
pub bits_counted : (steps : ℕ) → steps < 2 ^ 32 → BitsPerSampleAre steps (32 - count_leading_zeros 32 (steps - 1))
unfolding bits_per_sample
bits_counted steps h =
    let n = steps - 1 in
    let l : size n ≤ 32 = size-le n 32 (omega arith) in
    let e : 32 - size n ≡ count_leading_zeros 32 n = leading_unique 32 n (32 - size n) (size n) (omega arith) (size-lt n) (half_reached n) in
    record { whole = omega arith; most = omega arith }
