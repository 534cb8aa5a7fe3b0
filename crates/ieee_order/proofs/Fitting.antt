-- A value that fits its format is a multiple of the format's smallest, and rounds to itself.
use mathlib.Core.Path.{◌≡◌, sym, ◌∙◌, ap}
use mathlib.Core.Bool.{Bool, true, false, ◌&&◌}
use mathlib.Core.Logic.{⊎_elim}
use Prim.Native.Nat.{ℕ, zero, suc, ◌+◌, ◌-◌, ◌*◌, ◌%◌, ◌^◌, ◌≤◌, ◌<◌}
use native.Mathlib.Nat.{mul-pos, mul-le-mul_right, mul-lt-mul_of_pos_right, lt_of_mul-lt-mul_right, not-le_of_lt}
use native.Mathlib.Omega.{arith}
use lib.IntN.{ℤ, pos, negsuc}
use lib.Dec.{T, ltb, leb, eqb, ltb→lt, leb→le, eqb→eq}
use lib.Pow.{pow-add, pow_pos, pow-lt}
use lib.Ieee.{Float, nan, inf, fin, Format, prec, emax, low, up, down, round, le, fits}
use lib.Ieee.Digits.{back}
use lib.Ieee.Exact.{HasValue, round_exact}
use lib.Ieee.Fits.{and_l, and_r, up_pos, down_pos}
use Rattle.ieee_order.proofs.Fraction.{lt_or_ge, most→le}

-- ---- `down e` divides 2 ^ l, and up e / down e is 2 ^ j / 2 ^ l

pub step : (e : ℤ) (l : ℕ) → down e ≤ 2 ^ l → (j : ℕ) × (k : ℕ) × (2 ^ k * down e ≡ 2 ^ l) × (2 ^ j ≡ up e * 2 ^ k)
step (pos i) l h = (i + l, l, omega arith, pow-add 2 i l)
step (negsuc i) l h =
    let g : suc i ≤ l = ⊎_elim (λ b. absurd (not-le_of_lt (pow-lt b) h)) (λ b. b) (lt_or_ge l (suc i)) in
    (l - suc i, l - suc i, sym (pow-add 2 (l - suc i) (suc i)) ∙ ap (λ z. 2 ^ z) (back l (suc i) g), omega arith)

-- ---- what `fits` tests

pub record Fitting (f : Format) (m : ℕ) (e : ℤ) : Type 0 where
  pub small : m < 2 ^ prec f
  pub least : down e ≤ 2 ^ low f
  pub top : m * up e < 2 ^ suc (emax f) * down e

pub fits_as : (f : Format) (s : Bool) (m : ℕ) (e : ℤ) → T (fits f (fin s m e)) → Fitting f m e
unfolding fits
fits_as f s zero e h = record {
  small = pow_pos (prec f);
  least = omega (arith, eqb→eq (up e * down e) 1 h, mul-le-mul_right (down e) (up_pos e), pow_pos (low f));
  top = omega (arith, mul-pos (pow_pos (suc (emax f))) (down_pos e));
}
fits_as f s (suc m) e h =
    let a : Bool = eqb (suc m % 2) 1 in
    let b : Bool = ltb (suc m) (2 ^ prec f) in
    let c : Bool = leb (down e) (2 ^ low f) in
    let d : Bool = ltb (suc m * up e) (2 ^ suc (emax f) * down e) in
    record {
      small = ltb→lt (suc m) (2 ^ prec f) (and_r a b (and_l (a && b) c (and_l (a && b && c) d h)));
      least = leb→le (down e) (2 ^ low f) (and_r (a && b) c (and_l (a && b && c) d h));
      top = ltb→lt (suc m * up e) (2 ^ suc (emax f) * down e) (and_r (a && b && c) d h);
    }

-- ---- it rounds to itself

under_top : (n d L J E : ℕ) → 0 < L → n * L ≡ J * d → n < E * d → J < L * E
under_top n d L J E P g h = lt_of_mul-lt-mul_right d (omega (arith, mul-lt-mul_of_pos_right h P))

pub fits_value : (f : Format) (s : Bool) (m : ℕ) (e : ℤ) → T (fits f (fin s m e)) → HasValue (round f s (m * up e) (down e)) s (m * up e) (down e)
fits_value f s m e h =
    let r = fits_as f s m e h in
    let g = step e (low f) r.least in
    let n : m * up e * 2 ^ low f ≡ m * 2 ^ g.0 * down e = omega (arith, ap (λ z. m * up e * z) g.2, ap (λ z. m * z * down e) g.3) in
    round_exact f s (m * up e) (down e) m g.0 (down_pos e) r.small
    (rw (pow-add 2 (low f) (suc (emax f)))
    (under_top (m * up e) (down e) (2 ^ low f) (m * 2 ^ g.0) (2 ^ suc (emax f)) (pow_pos (low f)) n r.top))
    n

pub same_value : (s : Bool) (m : ℕ) (e : ℤ) (v : Float) → HasValue v s (m * up e) (down e) → T (le (fin s m e) v)
same_value s m e nan h = absurd h
same_value s m e (inf t) h = absurd h
same_value s m e (fin t n d) h = rw h.0 (go s)
  where
    go : (s : Bool) → T (le (fin s m e) (fin s n d))
    go true = most→le (fin true m e) (fin true n d) tt tt (omega (arith, h.1))
    go false = most→le (fin false m e) (fin false n d) tt tt (omega (arith, h.1))
