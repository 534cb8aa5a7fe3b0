-- Roundings of signed fractions (p − n) / c, a zero of either sign where p = n: they keep the order, and a difference of finite values is one.
use mathlib.Core.Path.{◌≡◌, refl, sym, ◌∙◌, ap, ap₂}
use mathlib.Core.Bool.{Bool, true, false, not, cond}
use Prim.Native.Nat.{ℕ, zero, suc, ◌+◌, ◌-◌, ◌*◌, ◌^◌, ◌≤◌, ◌<◌}
use native.Mathlib.Nat.{eq_of_mul-eq-mul_right, zero-lt-suc}
use native.Mathlib.Omega.{arith}
use lib.IntN.{pos}
use lib.Dec.{T, ltb, ltb→lt, nltb→le}
use lib.Ieee.{Float, nan, inf, fin, Format, binary32, binary64, prec, emax, low, up, down, odd, units, round, neg, sum, sub, le}
use lib.Ieee.Fits.{round_is}
use lib.Ieee.Order.{round_mono}
use lib.Ieee.Scale.{finite, round_same}
use lib.Ieee.Positive.{den}
use Rattle.ieee_order.proofs.Fraction.{hi, lo, hi_not, lo_not, hi_mul, lo_mul, hi_of, lo_of}
use Rattle.ieee_order.proofs.Order.{float_trans, float_neg}

-- v is the rounding of (p − n) / c
pub data Rounded (f : Format) (p n c : ℕ) (v : Float) : Type 0 where
  over : (a : ℕ) → p ≡ n + a → v ≡ round f false a c → Rounded f p n c v
  under : (a : ℕ) → n ≡ p + a → v ≡ round f true a c → Rounded f p n c v

pub own_rounded : (f : Format) (s : Bool) (a c : ℕ) → Rounded f (hi s a) (lo s a) c (round f s a c)
own_rounded f true a c = under a (omega arith) refl
own_rounded f false a c = over a (omega arith) refl

-- ---- the sign of a rounding

odd_neg : (d q k l : ℕ) → odd d true q k l ≡ neg (odd d false q k l)
unfolding odd neg
odd_neg d zero k l = refl
odd_neg d (suc q) k l = refl

units_neg : (f : Format) (q k : ℕ) → units f true q k ≡ neg (units f false q k)
unfolding units neg
units_neg f q k = go (ltb (q * 2 ^ k) (2 ^ (low f + suc (emax f))))
  where
    go : (b : Bool) → cond b (odd (suc (prec f)) true q k (low f)) (inf true) ≡ neg (cond b (odd (suc (prec f)) false q k (low f)) (inf false))
    go true = odd_neg (suc (prec f)) q k (low f)
    go false = refl

round_neg : (f : Format) (a c : ℕ) → round f true a c ≡ neg (round f false a c)
round_neg f a c = round_is f true a c ∙ units_neg f _ _ ∙ ap neg (sym (round_is f false a c))

-- ---- a zero

pub round_nought : (f : Format) (s : Bool) → round f s 0 1 ≡ fin s 0 (pos 0)
unfolding round
round_nought binary32 s = refl
round_nought binary64 s = refl

round_zero : (f : Format) (s : Bool) (c : ℕ) → 0 < c → round f s 0 c ≡ fin s 0 (pos 0)
round_zero f s c C = round_same f s 0 c 0 1 C (zero-lt-suc 0) (omega arith) ∙ round_nought f s

zero_le_round : (f : Format) (a c : ℕ) → 0 < c → T (le (fin false 0 (pos 0)) (round f false a c))
zero_le_round f a c C = rw (← round_nought f false) (round_mono f 0 1 a c (zero-lt-suc 0) C (omega arith))

zeros : (s t : Bool) → T (le (fin s 0 (pos 0)) (fin t 0 (pos 0)))
unfolding le
zeros true true = tt
zeros true false = tt
zeros false true = tt
zeros false false = tt

nothing : (a c : ℕ) → 0 < c → a * c ≤ 0 → a ≡ 0
nothing a c C h = eq_of_mul-eq-mul_right c C a 0 (omega arith)

-- ---- roundings keep the order

pub rounded_mono : (f : Format) (p n c p' n' c' : ℕ) (v v' : Float) → 0 < c → 0 < c'
    → Rounded f p n c v → Rounded f p' n' c' v' → p * c' + n' * c ≤ p' * c + n * c' → T (le v v')
rounded_mono f p n c p' n' c' v v' C C' (over a e q) (over b d r) h =
    rw (q, r) (round_mono f a c b c' C C' (omega (arith, ap (λ z. z * c') e, ap (λ z. z * c) d)))
rounded_mono f p n c p' n' c' v v' C C' (over a e q) (under b d r) h =
    let a0 : a ≡ 0 = nothing a c' C' (omega (arith, ap (λ z. z * c') e, ap (λ z. z * c) d)) in
    let b0 : b ≡ 0 = nothing b c C (omega (arith, ap (λ z. z * c') e, ap (λ z. z * c) d)) in
    rw (q, r, a0, b0, round_zero f false c C, round_zero f true c' C') (zeros false true)
rounded_mono f p n c p' n' c' v v' C C' (under a e q) (over b d r) h =
    rw (q, r, round_neg f a c)
    (float_trans (neg (round f false a c)) (fin true 0 (pos 0)) (round f false b c')
    (unfold neg in float_neg (fin false 0 (pos 0)) (round f false a c) (zero_le_round f a c C))
    (float_trans (fin true 0 (pos 0)) (fin false 0 (pos 0)) (round f false b c') (zeros true false) (zero_le_round f b c' C')))
rounded_mono f p n c p' n' c' v v' C C' (under a e q) (under b d r) h =
    rw (q, r, round_neg f a c, round_neg f b c')
    (float_neg (round f false b c') (round f false a c) (round_mono f b c' a c C' C (omega (arith, ap (λ z. z * c') e, ap (λ z. z * c) d))))

-- ---- a difference of finite values

mixed : (f : Format) (a b c : ℕ) → Rounded f a b c (sum f false a true b c)
unfolding sum
mixed f a b c = go (ltb a b) (ltb→lt a b) (nltb→le a b)
  where
    go : (t : Bool) → (T t → a < b) → (T (not t) → b ≤ a) → Rounded f a b c (cond t (round f true (b - a) c) (round f false (a - b) c))
    go true g h = let k = g tt in under (b - a) (omega arith) refl
    go false g h = let k = h tt in over (a - b) (omega arith) refl

mixed_back : (f : Format) (a b c : ℕ) → Rounded f b a c (sum f true a false b c)
unfolding sum
mixed_back f a b c = go (ltb a b) (ltb→lt a b) (nltb→le a b) (ltb b a) (nltb→le b a)
  where
    go : (t : Bool) → (T t → a < b) → (T (not t) → b ≤ a) → (u : Bool) → (T (not u) → a ≤ b)
        → Rounded f b a c (cond t (round f false (b - a) c) (round f u (a - b) c))
    go true g h u k = let l = g tt in over (b - a) (omega arith) refl
    go false g h true k = let l = h tt in under (a - b) (omega arith) refl
    go false g h false k = let l = h tt in let j = k tt in over (a - b) (omega arith) refl

recast : (f : Format) (p n c p' n' : ℕ) (v : Float) → p ≡ p' → n ≡ n' → Rounded f p n c v → Rounded f p' n' c v
recast f p n c p' n' v e d (over a g q) = over a (omega arith) q
recast f p n c p' n' v e d (under a g q) = under a (omega arith) q

sum_rounded : (f : Format) (s : Bool) (a : ℕ) (t : Bool) (b c : ℕ) → Rounded f (hi s a + hi t b) (lo s a + lo t b) c (sum f s a t b c)
sum_rounded f true a true b c = under (a + b) (omega arith) (unfold sum in refl)
sum_rounded f true a false b c = recast f b a c (0 + b) (a + 0) _ (omega arith) (omega arith) (mixed_back f a b c)
sum_rounded f false a true b c = recast f a b c (a + 0) (0 + b) _ (omega arith) (omega arith) (mixed f a b c)
sum_rounded f false a false b c = over (a + b) (omega arith) (unfold sum in refl)

pub sub_rounded : (f : Format) (x y : Float) → T (finite x) → T (finite y)
    → Rounded f (hi_of x * den y + lo_of y * den x) (lo_of x * den y + hi_of y * den x) (den x * den y) (sub f x y)
unfolding sub
sub_rounded f nan y p q = absurd p
sub_rounded f (inf s) y p q = absurd p
sub_rounded f (fin s m e) nan p q = absurd q
sub_rounded f (fin s m e) (inf t) p q = absurd q
sub_rounded f (fin s m e) (fin t n d) p q =
    recast f _ _ (down e * down d) _ _ _
    (ap₂ ◌+◌ (hi_mul s (m * up e) (down d)) (hi_not t (n * up d * down e) ∙ lo_mul t (n * up d) (down e)))
    (ap₂ ◌+◌ (lo_mul s (m * up e) (down d)) (lo_not t (n * up d * down e) ∙ hi_mul t (n * up d) (down e)))
    (sum_rounded f s (m * up e * down d) (not t) (n * up d * down e) (down e * down d))
