-- The difference x − y for a finite x and a y that is no NaN: it grows with x, it is −y at least where x ≥ 0, and it is 0 at least exactly where y ≤ x.
use mathlib.Core.Path.{◌≡◌, refl, ap, ap₂}
use mathlib.Core.Bool.{Bool, true, false, not, true≢false}
use mathlib.Core.Logic.{⊎_elim}
use Prim.Native.Nat.{ℕ, ◌+◌, ◌*◌, ◌^◌, ◌≤◌, ◌<◌}
use native.Mathlib.Nat.{mul-pos, mul-le-mul_right, le_of_mul-le-mul_right, mul-lt-mul_of_pos_right, lt_of_mul-lt-mul_right, zero-lt-suc}
use native.Mathlib.Omega.{arith}
use lib.IntN.{ℤ, pos}
use lib.Dec.{T}
use lib.Pow.{pow_pos}
use lib.Ieee.{Float, nan, inf, fin, Format, binary32, binary64, low, up, down, round, neg, sub, le, fits, is_nan}
use lib.Ieee.Fits.{down_pos, neg-fits}
use lib.Ieee.Scale.{finite}
use lib.Ieee.Positive.{den, den_pos}
use Rattle.ieee_order.proofs.Fraction.{hi_not, lo_not, hi_of, lo_of, lt_or_ge, le→most, most→le}
use Rattle.ieee_order.proofs.Order.{finite_number, le_numbers, float_refl, float_trans}
use Rattle.ieee_order.proofs.Rounded.{rounded_mono, own_rounded, round_nought, sub_rounded}
use Rattle.ieee_order.proofs.Fitting.{step, fits_as, fits_value, same_value}

-- ---- from an infinity

sub_inf : (f : Format) (x : Float) (t : Bool) → T (finite x) → sub f x (inf t) ≡ inf (not t)
unfolding sub
sub_inf f nan t p = absurd p
sub_inf f (inf s) t p = absurd p
sub_inf f (fin s m e) t p = refl

-- ---- a larger x

finite_mono : (f : Format) (x x' y : Float) → T (finite x) → T (finite x') → T (finite y) → T (le x x') → T (le (sub f x y) (sub f x' y))
finite_mono f x x' y p p' q h =
    rounded_mono f _ _ _ _ _ _ _ _ (mul-pos (den_pos x) (den_pos y)) (mul-pos (den_pos x') (den_pos y))
    (sub_rounded f x y p q) (sub_rounded f x' y p' q)
    (omega (arith, mul-le-mul_right (den y * den y) (le→most x x' p p' h)))

pub sub_mono : (f : Format) (x x' y : Float) → T (finite x) → T (finite x') → is_nan y ≡ false
    → T (le x x') → T (le (sub f x y) (sub f x' y))
unfolding is_nan
sub_mono f x x' nan p p' q h = absurd (true≢false q)
sub_mono f x x' (inf t) p p' q h = rw (sub_inf f x t p, sub_inf f x' t p') (float_refl (inf (not t)) refl)
sub_mono f x x' (fin t n d) p p' q h = finite_mono f x x' (fin t n d) p p' tt h

pub sub_number : (f : Format) (x y : Float) → T (finite x) → is_nan y ≡ false → is_nan (sub f x y) ≡ false
sub_number f x y p q = (le_numbers (sub f x y) (sub f x y) (sub_mono f x x y p p q (float_refl x (finite_number x p)))).0

-- ---- at least −y

neg_le_finite : (f : Format) (x : Float) (t : Bool) (n : ℕ) (d : ℤ) → T (finite x) → T (le (fin false 0 (pos 0)) x)
    → T (fits f (fin (not t) n d)) → T (le (fin (not t) n d) (sub f x (fin t n d)))
neg_le_finite f x t n d p h g =
    float_trans (fin (not t) n d) (round f (not t) (n * up d) (down d)) (sub f x (fin t n d))
    (same_value (not t) n d _ (fits_value f (not t) n d g))
    (rounded_mono f _ _ _ _ _ _ _ _ (down_pos d) (mul-pos (den_pos x) (down_pos d))
    (own_rounded f (not t) (n * up d) (down d)) (sub_rounded f x (fin t n d) p tt)
    (rw (hi_not, lo_not) (omega (arith, mul-le-mul_right (down d * down d) (le→most (fin false 0 (pos 0)) x tt p h)))))

pub neg_le_sub : (f : Format) (x y : Float) → T (finite x) → T (le (fin false 0 (pos 0)) x) → is_nan y ≡ false → T (fits f y)
    → T (le (neg y) (sub f x y))
unfolding neg is_nan
neg_le_sub f x nan p h q g = absurd (true≢false q)
neg_le_sub f x (inf t) p h q g = rw (sub_inf f x t p) (float_refl (inf (not t)) refl)
neg_le_sub f x (fin t n d) p h q g = neg_le_finite f x t n d p h (neg-fits f (fin t n d) g)

-- ---- the sign of a difference: where it is not 0 it is one of the format's smallest at least, so it does not round to 0

-- p / c < n / c, both multiples of 1 / L: one such part lies between them
gap : (p n c u v L q : ℕ) → 0 < q → p * q ≡ u * L → n * q ≡ v * L → c * q ≡ L * L → p < n → p * L + c ≤ n * L
gap p n c u v L q Q a b e h =
    let l : u < v = lt_of_mul-lt-mul_right L (omega (arith, mul-lt-mul_of_pos_right h Q)) in
    let g : p * q + L ≤ n * q = omega (arith, mul-le-mul_right L l) in
    le_of_mul-le-mul_right {k = q} (omega (arith, mul-le-mul_right L g)) Q

-- h / d + l / b over d * b is one over L, where j * d and k * b are L
parts : (h l d b j k L : ℕ) → j * d ≡ L → k * b ≡ L → (h * b + l * d) * (j * k) ≡ (h * j + l * k) * L
parts h l d b j k L e g = omega (arith, ap (λ z. h * j * z) g, ap (λ z. l * k * z) e)

smallest : (f : Format) → T (le (fin false 0 (pos 0)) (round f true 1 (2 ^ low f))) → ⊥
unfolding round le
smallest binary32 h = h
smallest binary64 h = h

same_test : (a b : Bool) → (T a → T b) → (T b → T a) → a ≡ b
same_test true true f g = refl
same_test true false f g = absurd (f tt)
same_test false true f g = absurd (g tt)
same_test false false f g = refl

finite_sign : (f : Format) (s : Bool) (m : ℕ) (e : ℤ) (t : Bool) (n : ℕ) (d : ℤ) → T (fits f (fin s m e)) → T (fits f (fin t n d))
    → T (le (fin false 0 (pos 0)) (sub f (fin s m e) (fin t n d))) → T (le (fin t n d) (fin s m e))
finite_sign f s m e t n d g h l =
    let x = fin s m e in
    let y = fin t n d in
    let j = step e (low f) (fits_as f s m e g).least in
    let k = step d (low f) (fits_as f t n d h).least in
    let L = 2 ^ low f in
    ⊎_elim
    (λ (b : hi_of x * den y + lo_of y * den x < lo_of x * den y + hi_of y * den x). absurd (smallest f
    (float_trans (fin false 0 (pos 0)) (sub f x y) (round f true 1 L) l
    (rounded_mono f _ _ _ 0 1 L _ _ (mul-pos (den_pos x) (den_pos y)) (pow_pos (low f)) (sub_rounded f x y tt tt) (own_rounded f true 1 L)
    (let r = gap _ _ (den x * den y) _ _ L (2 ^ j.1 * 2 ^ k.1) (mul-pos (pow_pos j.1) (pow_pos k.1))
    (parts (hi_of x) (lo_of y) (den x) (den y) (2 ^ j.1) (2 ^ k.1) L j.2 k.2)
    (parts (lo_of x) (hi_of y) (den x) (den y) (2 ^ j.1) (2 ^ k.1) L j.2 k.2)
    (omega (arith, ap₂ ◌*◌ j.2 k.2)) b in omega arith)))))
    (λ b. most→le y x tt tt (omega arith))
    (lt_or_ge (hi_of x * den y + lo_of y * den x) (lo_of x * den y + hi_of y * den x))

finite_sign_back : (f : Format) (x y : Float) → T (finite x) → T (finite y) → T (le y x) → T (le (fin false 0 (pos 0)) (sub f x y))
finite_sign_back f x y p q h =
    rw (← round_nought f false)
    (rounded_mono f 0 0 1 _ _ _ _ _ (zero-lt-suc 0) (mul-pos (den_pos x) (den_pos y)) (own_rounded f false 0 1) (sub_rounded f x y p q)
    (let k = le→most y x q p h in omega arith))

pub sub_sign : (f : Format) (x y : Float) → T (finite x) → is_nan y ≡ false → T (fits f x) → T (fits f y)
    → le y x ≡ le (fin false 0 (pos 0)) (sub f x y)
unfolding is_nan
sub_sign f nan y p q g h = absurd p
sub_sign f (inf s) y p q g h = absurd p
sub_sign f (fin s m e) nan p q g h = absurd (true≢false q)
sub_sign f (fin s m e) (inf true) p q g h = unfold le sub in refl
sub_sign f (fin s m e) (inf false) p q g h = unfold le sub in refl
sub_sign f (fin s m e) (fin t n d) p q g h =
    same_test (le (fin t n d) (fin s m e)) (le (fin false 0 (pos 0)) (sub f (fin s m e) (fin t n d)))
    (finite_sign_back f (fin s m e) (fin t n d) tt tt) (finite_sign f s m e t n d g h)
