-- An index, and the three of a slot as they are read one after the other.
use mathlib.Core.Path.{◌≡◌, refl, sym, ap, ◌∙◌}
use mathlib.Core.Bool.{Bool, cond}
use mathlib.Core.List.{List, ◌∷◌}
use Prim.Native.Nat.{ℕ, suc, ◌-◌}
use native.Mathlib.Omega.{arith}
use lib.Dec.{eqb}
use borrow.Author.Tests.{eq-eqb, ne_eqb}
use Rattle.audio_data.specs.declared.Scfsi.{Scfsi}
use Rattle.audio_data.specs.declared.Scfsi.TheVariants.{ThreePerGranule, Share01Then2, ShareAll, Share0Then12}
use Rattle.audio_data.specs.Scfsi.{Three, three, parts_of, restored}
use Rattle.side_info_reading.specs.Taken.{Taken, got, refused, and_then, number_taken}
use Rattle.side_info_reading.specs.Reading.{index_taken, indices_taken, three_taken}
use Rattle.side_info_reading.proofs.TakenLaws.{then_got, then_refused}

-- ---- an index

abbrev unless63 : ℕ → List Bool → Taken ℕ
unless63 index rest = cond (eqb index 63) (refused 10) (got index rest)

module _ (bits : List Bool) where
  pub index_refused : (n : ℕ) → refused n ≡ number_taken 6 bits → refused n ≡ index_taken bits
  index_refused n e = sym (then_refused unless63 (number_taken 6 bits) n (sym e))

  module _ (index : ℕ) (rest : List Bool) (e : got index rest ≡ number_taken 6 bits) where
    unless : index_taken bits ≡ unless63 index rest
    unless = then_got unless63 (number_taken 6 bits) index rest (sym e)

    pub index_63 : index ≡ 63 → refused 10 ≡ index_taken bits
    index_63 z = sym (unless ∙ ap (λ (b : Bool). cond b (refused 10) (got index rest)) (eq-eqb index 63 z))

    pub index_got : (index ≡ 63 → ⊥) → got index rest ≡ index_taken bits
    index_got z = sym (unless ∙ ap (λ (b : Bool). cond b (refused 10) (got index rest)) (ne_eqb index 63 z))

-- ---- one index after the other

module _ {A : Type 0} (g : List ℕ → A) (n : ℕ) where
  inner : (i : ℕ) (t : Taken (List ℕ)) → and_then (and_then t (λ more. got (i ∷ more))) (λ is. got (g is)) ≡ and_then t (λ more. got (g (i ∷ more)))
  unfolding and_then
  inner i (got is rest) = refl
  inner i (refused m) = refl

  indices_first : (bits : List Bool) → and_then (indices_taken (suc n) bits) (λ is. got (g is))
      ≡ and_then (index_taken bits) (λ i rest. and_then (indices_taken n rest) (λ more. got (g (i ∷ more))))
  unfolding and_then
  indices_first bits = go (index_taken bits)
    where
      go : (t : Taken ℕ) → and_then (and_then t (λ i rest. and_then (indices_taken n rest) (λ more. got (i ∷ more)))) (λ is. got (g is))
          ≡ and_then t (λ i rest. and_then (indices_taken n rest) (λ more. got (g (i ∷ more))))
      go (got i rest) = inner i (indices_taken n rest)
      go (refused m) = refl

-- the three behind the first index, and behind the first two
unfoldable pub others_taken : Scfsi → ℕ → List Bool → Taken Three
unfolding and_then
others_taken s a bits = and_then (indices_taken (parts_of s - 1) bits) (λ more. got (restored s (a ∷ more)))

unfoldable pub last_taken : Scfsi → ℕ → ℕ → List Bool → Taken Three
unfolding and_then
last_taken s a b bits = and_then (indices_taken (parts_of s - 2) bits) (λ more. got (restored s (a ∷ b ∷ more)))

three_first : (s : Scfsi) (bits : List Bool) → three_taken s bits ≡ and_then (index_taken bits) (others_taken s)
unfolding others_taken
three_first ThreePerGranule bits = indices_first (restored ThreePerGranule) 2 bits
three_first Share01Then2 bits = indices_first (restored Share01Then2) 1 bits
three_first ShareAll bits = indices_first (restored ShareAll) 0 bits
three_first Share0Then12 bits = indices_first (restored Share0Then12) 1 bits

others_none : (s : Scfsi) (a : ℕ) (bits : List Bool) → parts_of s ≡ 1 → others_taken s a bits ≡ got (three a a a) bits
unfolding others_taken
others_none ThreePerGranule a bits e = absurd (omega (arith, e))
others_none Share01Then2 a bits e = absurd (omega (arith, e))
others_none ShareAll a bits e = refl
others_none Share0Then12 a bits e = absurd (omega (arith, e))

others_next : (s : Scfsi) (a : ℕ) (bits : List Bool) → (parts_of s ≡ 1 → ⊥) → others_taken s a bits ≡ and_then (index_taken bits) (last_taken s a)
unfolding others_taken last_taken
others_next ThreePerGranule a bits e = indices_first (λ is. restored ThreePerGranule (a ∷ is)) 1 bits
others_next Share01Then2 a bits e = indices_first (λ is. restored Share01Then2 (a ∷ is)) 0 bits
others_next ShareAll a bits e = absurd (e refl)
others_next Share0Then12 a bits e = indices_first (λ is. restored Share0Then12 (a ∷ is)) 0 bits

last_next : (a b : ℕ) (bits : List Bool) → last_taken ThreePerGranule a b bits ≡ and_then (index_taken bits) (λ c. got (three a b c))
unfolding last_taken
last_next a b bits = indices_first (λ is. restored ThreePerGranule (a ∷ b ∷ is)) 0 bits

-- ---- as they are read

module _ (s : Scfsi) (bits : List Bool) where
  pub first_refused : (n : ℕ) → refused n ≡ index_taken bits → refused n ≡ three_taken s bits
  first_refused n e = sym (three_first s bits ∙ then_refused (others_taken s) (index_taken bits) n (sym e))

  module _ (a : ℕ) (behind : List Bool) (first : got a behind ≡ index_taken bits) where
    others : three_taken s bits ≡ others_taken s a behind
    others = three_first s bits ∙ then_got (others_taken s) (index_taken bits) a behind (sym first)

    pub one_read : parts_of s ≡ 1 → got (three a a a) behind ≡ three_taken s bits
    one_read e = sym (others ∙ others_none s a behind e)

    module _ (more : parts_of s ≡ 1 → ⊥) where
      pub second_refused : (n : ℕ) → refused n ≡ index_taken behind → refused n ≡ three_taken s bits
      second_refused n e = sym (others ∙ others_next s a behind more ∙ then_refused (last_taken s a) (index_taken behind) n (sym e))

      pub last : (b : ℕ) (rest : List Bool) → got b rest ≡ index_taken behind → three_taken s bits ≡ last_taken s a b rest
      last b rest e = others ∙ others_next s a behind more ∙ then_got (last_taken s a) (index_taken behind) b rest (sym e)

module _ (bits behind : List Bool) (a : ℕ) (first : got a behind ≡ index_taken bits) (b : ℕ) (rest : List Bool) (second : got b rest ≡ index_taken behind) where
  pub two_read_01 : got (three a a b) rest ≡ three_taken Share01Then2 bits
  unfolding last_taken
  two_read_01 = sym (last Share01Then2 bits a behind first (λ z. omega (arith, z)) b rest second)

  pub two_read_12 : got (three a b b) rest ≡ three_taken Share0Then12 bits
  unfolding last_taken
  two_read_12 = sym (last Share0Then12 bits a behind first (λ z. omega (arith, z)) b rest second)

  two : three_taken ThreePerGranule bits ≡ last_taken ThreePerGranule a b rest
  two = last ThreePerGranule bits a behind first (λ z. omega (arith, z)) b rest second

  pub third_refused : (n : ℕ) → refused n ≡ index_taken rest → refused n ≡ three_taken ThreePerGranule bits
  third_refused n e = sym (two ∙ last_next a b rest ∙ then_refused (λ c. got (three a b c)) (index_taken rest) n (sym e))

  pub three_read : (c : ℕ) (end : List Bool) → got c end ≡ index_taken rest → got (three a b c) end ≡ three_taken ThreePerGranule bits
  three_read c end e = sym (two ∙ last_next a b rest ∙ then_got (λ k. got (three a b k)) (index_taken rest) c end (sym e))
