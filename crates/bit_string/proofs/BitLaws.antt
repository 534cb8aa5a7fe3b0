-- Laws of numbers as bits. What carries the rest: the bits of a number in a + b bits are those of its part above 2 ^ b and then those of the number
-- in b bits (`split`). Reading w bits at the front gives the number back (`read_back`).
use mathlib.Core.Path.{◌≡◌, refl, sym, ap, ap₂, ◌∙◌, subst}
use mathlib.Core.Bool.{Bool, true, false, cond}
use mathlib.Core.List.{List, [], ◌∷◌, ◌++◌}
use Prim.Native.Nat.{ℕ, zero, suc, ◌+◌, ◌*◌, ◌/◌, ◌%◌, ◌^◌, ◌<◌}
use native.Mathlib.Nat.{mod-eq_of_lt, add_comm, zero-add, suc-add, one-mul, zero-mul, pow-suc}
use native.Mathlib.Numerals.{add-one, one-add}
use native.Mathlib.Omega.{arith}
use lib.Dec.{eqb, lit<}
use lib.ListN.{length, drop}
use lib.Pow.{shr-shr, mod-pow-add, mod-mod-pow, field, high, low}
use lib.Seq.{take_at, drop_at}
use borrow.Author.Tests.{eqb-true, eqb-false}
use Rattle.bit_string.specs.Bits.{bits_of, value_of, front}

-- ---- how long

pub length_bits : (w n : ℕ) → length (bits_of w n) ≡ w
unfolding bits_of
length_bits zero n = refl
length_bits (suc w) n = ap suc (length_bits w n)

pub value_small : (bs : List Bool) → value_of bs < 2 ^ length bs
unfolding value_of
value_small [] = lit< tt
value_small (b ∷ bs) = go b (value_small bs)
  where
    go : (b : Bool) → value_of bs < 2 ^ length bs → cond b (2 ^ length bs) 0 + value_of bs < 2 ^ suc (length bs)
    go true h = rw (pow-suc 2 (length bs)) (omega arith)
    go false h = rw (pow-suc 2 (length bs)) (omega arith)

-- ---- a number apart

pub split : (a b n : ℕ) → bits_of (a + b) n ≡ bits_of a (n / 2 ^ b) ++ bits_of b n
unfolding bits_of
split zero b n = ap (λ (k : ℕ). bits_of k n) (zero-add b)
split (suc a) b n =
    let e : n / 2 ^ (a + b) ≡ n / 2 ^ b / 2 ^ a = ap (λ (k : ℕ). n / 2 ^ k) (add_comm a b) ∙ sym (shr-shr n b a) in
    ap (λ (k : ℕ). bits_of k n) (suc-add a b) ∙ ap₂ (λ (m : ℕ) (bs : List Bool). eqb (m % 2) 1 ∷ bs) e (split a b n)

-- what stands above w bits is not seen
above : (w k n : ℕ) → bits_of w (n % 2 ^ (k + w)) ≡ bits_of w n
unfolding bits_of
above zero k n = refl
above (suc w) k n =
    let s : k + suc w ≡ suc k + w = omega arith in
    let here : n % 2 ^ (suc k + w) / 2 ^ w % 2 ≡ n / 2 ^ w % 2 =
    ap (λ (m : ℕ). m % 2) (field n (suc k) w) ∙ ap (λ (m : ℕ). n / 2 ^ w % 2 ^ m % 2) (sym (add-one k)) ∙ mod-mod-pow (n / 2 ^ w) k 1 in
    ap (λ (m : ℕ). eqb (n % 2 ^ m / 2 ^ w % 2) 1 ∷ bits_of w (n % 2 ^ m)) s
    ∙ ap₂ (λ (m : ℕ) (bs : List Bool). eqb m 1 ∷ bs) here (above w (suc k) n)

pub modulo : (w n : ℕ) → bits_of w (n % 2 ^ w) ≡ bits_of w n
modulo w n = ap (λ (k : ℕ). bits_of w (n % 2 ^ k)) (sym (zero-add w)) ∙ above w 0 n

-- ---- there and back

-- the number in w bits is the number below 2 ^ w
pub value_bits : (w n : ℕ) → value_of (bits_of w n) ≡ n % 2 ^ w
unfolding bits_of value_of
value_bits zero n = omega arith
value_bits (suc w) n = go (eqb (n / 2 ^ w % 2) 1) refl (value_bits w n)
  where
    parts : n % 2 ^ suc w ≡ n / 2 ^ w % 2 * 2 ^ w + n % 2 ^ w
    parts = ap (λ (k : ℕ). n % 2 ^ k) (sym (one-add w)) ∙ mod-pow-add n 1 w

    go : (b : Bool) → eqb (n / 2 ^ w % 2) 1 ≡ b → value_of (bits_of w n) ≡ n % 2 ^ w
        → cond b (2 ^ length (bits_of w n)) 0 + value_of (bits_of w n) ≡ n % 2 ^ suc w
    go true e ih =
        ap₂ (λ (k m : ℕ). 2 ^ k + m) (length_bits w n) ih
        ∙ ap (λ (k : ℕ). k + n % 2 ^ w) (sym (one-mul (2 ^ w)) ∙ ap (λ (k : ℕ). k * 2 ^ w) (sym (eqb-true (n / 2 ^ w % 2) 1 e)))
        ∙ sym parts
    go false e ih =
        let z : n / 2 ^ w % 2 ≡ 0 = let d = eqb-false (n / 2 ^ w % 2) 1 e in omega arith in
        ap (λ (k : ℕ). 0 + k) ih
        ∙ ap (λ (k : ℕ). k + n % 2 ^ w) (sym (zero-mul (2 ^ w)) ∙ ap (λ (k : ℕ). k * 2 ^ w) (sym z))
        ∙ sym parts

-- bits stand for the number whose bits they are
pub bits_value : (bs : List Bool) → bits_of (length bs) (value_of bs) ≡ bs
unfolding bits_of value_of
bits_value [] = refl
bits_value (b ∷ bs) = go b (bits_value bs)
  where
    k : ℕ
    k = length bs

    v : ℕ
    v = value_of bs

    Whole : ℕ → Bool → Type 0
    Whole n b = ◌≡◌ {A = List Bool} (eqb (n / 2 ^ k % 2) 1 ∷ bits_of k n) (b ∷ bs)

    under : (hi : ℕ) (b : Bool) → eqb (hi % 2) 1 ≡ b → bits_of k v ≡ bs → Whole (hi * 2 ^ k + v) b
    under hi b e ih =
        let up : eqb ((hi * 2 ^ k + v) / 2 ^ k % 2) 1 ≡ b = ap (λ (m : ℕ). eqb (m % 2) 1) (high hi k (value_small bs)) ∙ e in
        let down : bits_of k (hi * 2 ^ k + v) ≡ bs =
        sym (modulo k (hi * 2 ^ k + v)) ∙ ap (bits_of k) (low hi k (value_small bs)) ∙ ih in
        ap₂ ◌∷◌ up down

    go : (b : Bool) → bits_of k v ≡ bs → Whole (cond b (2 ^ k) 0 + v) b
    go true ih = subst (λ (m : ℕ). Whole (m + v) true) (one-mul (2 ^ k)) (under 1 true refl ih)
    go false ih = subst (λ (m : ℕ). Whole (m + v) false) (zero-mul (2 ^ k)) (under 0 false refl ih)

-- two numbers side by side, the second in b bits
pub beside : (a b hi lo : ℕ) → lo < 2 ^ b → bits_of (a + b) (hi * 2 ^ b + lo) ≡ bits_of a hi ++ bits_of b lo
beside a b hi lo h =
    let n = hi * 2 ^ b + lo in
    split a b n ∙ ap₂ ◌++◌ (ap (bits_of a) (high hi b h)) (sym (modulo b n) ∙ ap (bits_of b) (low hi b h))

-- reading w bits at the front of a string gives the number that was put there, and what is behind it
module _ (w n : ℕ) (rest : List Bool) where
  pub read_back : n < 2 ^ w → front w (bits_of w n ++ rest) ≡ n
  read_back h = ap value_of (take_at (bits_of w n) rest w (length_bits w n)) ∙ value_bits w n ∙ mod-eq_of_lt h

  pub behind : drop w (bits_of w n ++ rest) ≡ rest
  behind = drop_at (bits_of w n) rest w (length_bits w n)
