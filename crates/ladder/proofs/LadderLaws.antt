-- Laws of the ladder: the two ways to be on it, and the rate that no ladder passes.
use mathlib.Core.Path.{◌≡◌, refl, sym, ap₂, ◌∙◌, subst}
use mathlib.Core.Bool.{Bool, true, false, ◌||◌, false≢true}
use mathlib.Core.List.{List, [], ◌∷◌}
use Prim.Native.Nat.{ℕ, ◌≤◌}
use native.Mathlib.Omega.{arith}
use lib.Dec.{T, leb, leb→le, eqb}
use Rattle.std.specs.List.{list_any}
use borrow.Author.Tests.{eqb-true, eq-eqb, ne_eqb}
use Rattle.tables.specs.Search.{one_of}
use Rattle.tables.proofs.Rule.{all}
use Rattle.tables.proofs.Keys.{of_member}
use Rattle.header.specs.declared.FrameHeader.{FrameHeader}
use Rattle.header.specs.Header.{free_format}
use Rattle.ladder.specs.Ladder.{ladder, lsf_ladder, ladder_of, bit_rates, on_ladder}

module _ (h : FrameHeader) where
  pub in_free_format : free_format h ≡ true → on_ladder h ≡ true
  unfolding on_ladder
  in_free_format f = rw f

  pub by_flag : free_format h ≡ false → (lsf : Bool) → h.lsf ≡ lsf → on_ladder h ≡ one_of (bit_rates (ladder_of lsf)) h.bit_rate
  unfolding on_ladder
  by_flag f lsf l = rw (f, l)

eqb_sym : (a b : ℕ) → eqb a b ≡ eqb b a
eqb_sym a b = go (eqb a b) refl
  where
    go : (t : Bool) → eqb a b ≡ t → t ≡ eqb b a
    go true e = sym (eq-eqb b a (sym (eqb-true a b e)))
    go false e = sym (ne_eqb b a (λ q. false≢true (sym e ∙ eq-eqb a b (sym q))))

-- what `contains` tests of each rate
pub listed_rate : (rates : List ℕ) (n : ℕ) → list_any (λ r. eqb r n) rates ≡ one_of rates n
unfolding one_of
listed_rate [] n = refl
listed_rate (r ∷ rates) n = ap₂ ◌||◌ (eqb_sym r n) (listed_rate rates n)

-- 384 kbit/s is the highest of either ladder
abbrev low : ℕ → Bool
low n = leb n 384_000

all_low : (lsf : Bool) → T (all low (bit_rates (ladder_of lsf)))
unfolding ladder_of ladder lsf_ladder
all_low true = tt
all_low false = tt

pub at_most : (h : FrameHeader) → on_ladder h ≡ true → h.bit_rate ≤ 384_000
unfolding on_ladder
at_most h o = go (free_format h) refl (subst T (sym o) tt)
  where
    rates : List ℕ
    rates = bit_rates (ladder_of h.lsf)

    go : (free : Bool) → free_format h ≡ free → T (free || one_of rates h.bit_rate) → h.bit_rate ≤ 384_000
    go true f t = let z = eqb-true h.bit_rate 0 f in omega arith
    go false f t = leb→le h.bit_rate 384_000 (of_member low rates h.bit_rate (all_low h.lsf) t)
