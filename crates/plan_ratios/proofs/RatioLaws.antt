-- Laws of how a ratio is written.
use Rattle.std.proofs.Common.{◌≡◌, ℕ, suc, ◌+◌, ◌-◌, ◌<◌, List, [], ◌∷◌, length, get_or, take, drop, refl, arith, ne_eqb}
use native.Mathlib.Numerals.{add-one}
use Rattle.std.specs.Prelude.{option_map, Some, None, position}
use lib.Ieee.{neg}
use lib.ListN.{drop_of_length-le}
use lib.Seq.{take_all}
use Rattle.plan_text.proofs.ByteLaws.{take_rest, reach_some, reach_none}
use Rattle.plan_ratios.specs.Ratio.{is_point, pointed, unsigned, signed}

-- the two parts of a number, as the code cuts them
module _ (t : List ℕ) where
  pub at_point : (r : ℕ) → Some r ≡ position is_point t → pointed (take r t) (take (length t - (r + 1)) (drop (r + 1) t)) ≡ unsigned t
  unfolding unsigned
  at_point r e = rw (take_rest t (r + 1), add-one r, reach_some is_point t r e) refl

  pub no_point : None ≡ position is_point t → pointed t [] ≡ unsigned t
  unfolding unsigned
  no_point e = rw (reach_none is_point t e, take_all (length t) t (omega arith), drop_of_length-le t {i = suc (length t)} (omega arith)) refl

-- the sign
module _ (t : List ℕ) where
  pub minus_sign : get_or t 0 0 ≡ 45 → signed t ≡ option_map neg (unsigned (take (length t - 1) (drop 1 t)))
  unfolding signed
  minus_sign e = rw (take_rest t 1) (go t e)
    where
      go : (t : List ℕ) → get_or t 0 0 ≡ 45 → signed t ≡ option_map neg (unsigned (drop 1 t))
      go [] e = absurd (omega arith)
      go (b ∷ bs) e = rw e

  pub plus_sign : get_or t 0 0 ≡ 43 → signed t ≡ unsigned (take (length t - 1) (drop 1 t))
  unfolding signed
  plus_sign e = rw (take_rest t 1) (go t e)
    where
      go : (t : List ℕ) → get_or t 0 0 ≡ 43 → signed t ≡ unsigned (drop 1 t)
      go [] e = absurd (omega arith)
      go (b ∷ bs) e = rw e

  pub no_sign : (get_or t 0 0 ≡ 45 → ⊥) → (get_or t 0 0 ≡ 43 → ⊥) → signed t ≡ unsigned t
  unfolding signed
  no_sign e f = go t e f
    where
      go : (t : List ℕ) → (get_or t 0 0 ≡ 45 → ⊥) → (get_or t 0 0 ≡ 43 → ⊥) → signed t ≡ unsigned t
      go [] e f = refl
      go (b ∷ bs) e f = rw (ne_eqb b 45 e, ne_eqb b 43 f)

  pub empty : length t < 1 → signed t ≡ unsigned t
  unfolding signed
  empty h = go t h
    where
      go : (t : List ℕ) → length t < 1 → signed t ≡ unsigned t
      go [] h = refl
      go (b ∷ bs) h = absurd (omega arith)
