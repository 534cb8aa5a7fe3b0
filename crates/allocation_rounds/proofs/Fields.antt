-- Laws over fields: what holds of one and of every other; and sums over the first n, where one field's part changes.
use mathlib.Core.Path.{◌≡◌, refl, sym, ap, ap₂, subst}
use Prim.Native.Nat.{ℕ, zero, suc, ◌+◌, ◌<◌}
use native.Mathlib.Nat.{not-suc-le-zero}
use native.Mathlib.Decide.{ℕ_discrete}
use native.Mathlib.Omega.{arith}
use Rattle.tables.specs.Sum.{sum_below}

-- what holds of one field, and of every other
pub either : (P : ℕ → Type 0) (f : ℕ) → P f → ((k : ℕ) → (k ≡ f → ⊥) → P k) → (k : ℕ) → P k
either P f p q k = go (ℕ_discrete k f)
  where
    go : Dec (k ≡ f) → P k
    go (yes e) = subst P (sym e) p
    go (no e) = q k e

-- what holds of each field below n, and of n
pub up_to : (P : ℕ → Type 0) (n : ℕ) → ((f : ℕ) → f < n → P f) → P n → (f : ℕ) → f < suc n → P f
up_to P n h p = either (λ f. f < suc n → P f) n (λ l. p) (λ f ne l. h f (omega arith))

-- ---- sums

sum_same : (a b : ℕ → ℕ) (n : ℕ) → ((k : ℕ) → k < n → a k ≡ b k) → sum_below n a ≡ sum_below n b
sum_same a b zero h = refl
sum_same a b (suc n) h = ap₂ ◌+◌ (sum_same a b n (λ k l. h k (omega arith))) (h n (omega arith))

-- two sums whose parts differ at one field only
pub one_differs : (a b : ℕ → ℕ) (f n : ℕ) → f < n → ((k : ℕ) → (k ≡ f → ⊥) → a k ≡ b k) → sum_below n a + b f ≡ sum_below n b + a f
one_differs a b f zero l h = absurd (not-suc-le-zero l)
one_differs a b f (suc n) l h = go (λ m. one_differs a b f n m h) (ℕ_discrete n f)
  where
    go : (f < n → sum_below n a + b f ≡ sum_below n b + a f) → Dec (n ≡ f) → sum_below n a + a n + b f ≡ sum_below n b + b n + a f
    go rest (yes e) =
        let same = sum_same a b n (λ k m. h k (λ q. omega arith)) in
        let p = ap a e in
        let q = ap b e in
        omega arith
    go rest (no e) =
        let r = rest (omega arith) in
        let p = h n e in
        omega arith
