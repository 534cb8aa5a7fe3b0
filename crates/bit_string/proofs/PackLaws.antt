-- Laws of packing: how a byte that is stored adds eight bits (`stored`), and what packed bytes unpack to (`unpacked_packed`).
use mathlib.Core.Path.{◌≡◌, refl, sym, ap, ap₂, ◌∙◌, subst}
use mathlib.Core.Bool.{Bool, false}
use mathlib.Core.List.{List, [], ◌∷◌, ◌++◌, append-nil, append_assoc}
use Prim.Native.Nat.{ℕ, zero, suc, ◌+◌, ◌-◌, ◌*◌, ◌%◌, ◌^◌, ◌≤◌, ◌<◌}
use native.Mathlib.Nat.{not-suc-le-zero, le_of_suc-le-suc, zero-add, zero-sub, sub-zero, suc-sub-suc, zero-div, add-zero, mod-eq_of_lt}
use native.Mathlib.Omega.{arith}
use lib.ListN.{length, drop, set, replicate, length-append, length-drop, drop_of_length-le, replicate-append-replicate}
use lib.Dec.{eqb}
use lib.Pow.{pow_pos, shl_lt}
use lib.Seq.{drop-append-le}
use Rattle.bit_string.specs.Bits.{bits_of, value_of, unpacked, filled_to, packed}
use Rattle.bit_string.proofs.BitLaws.{length_bits, bits_value, value_bits, beside}

pub length_packed : (n : ℕ) (bs : List Bool) → length (packed n bs) ≡ n
unfolding packed
length_packed zero bs = refl
length_packed (suc n) bs = ap suc (length_packed n (drop 8 bs))

pub length_unpacked : (bytes : List ℕ) → length (unpacked bytes) ≡ 8 * length bytes
unfolding unpacked
length_unpacked [] = refl
length_unpacked (b ∷ bytes) = length-append (bits_of 8 b) (unpacked bytes) ∙ (let l = length_bits 8 b in let ih = length_unpacked bytes in omega arith)

pub length_filled : (w : ℕ) (bs : List Bool) → length (filled_to w bs) ≡ w
unfolding filled_to
length_filled zero bs = refl
length_filled (suc w) [] = ap suc (length_filled w [])
length_filled (suc w) (b ∷ bs) = ap suc (length_filled w bs)

-- what stands behind w bits is not seen
enough : (w : ℕ) (bs cs : List Bool) → w ≤ length bs → filled_to w (bs ++ cs) ≡ filled_to w bs
unfolding filled_to
enough zero bs cs h = refl
enough (suc w) [] cs h = absurd (not-suc-le-zero h)
enough (suc w) (b ∷ bs) cs h = ap (λ (xs : List Bool). b ∷ xs) (enough w bs cs (le_of_suc-le-suc h))

-- no bits are zeros
zeros : (w : ℕ) → value_of (filled_to w []) ≡ 0
unfolding filled_to value_of
zeros zero = refl
zeros (suc w) = zero-add (value_of (filled_to w [])) ∙ zeros w

pub packed_nothing : (n : ℕ) → packed n [] ≡ replicate n 0
unfolding packed
packed_nothing zero = refl
packed_nothing (suc n) = ap₂ ◌∷◌ (zeros 8) (packed_nothing n)

-- ---- zeros behind the last bit

blank : (w : ℕ) → filled_to w [] ≡ replicate w false
unfolding filled_to
blank zero = refl
blank (suc w) = ap (λ (xs : List Bool). false ∷ xs) (blank w)

-- w bits with the rest behind them are the bits, and zeros where there were fewer
filled_rest : (w : ℕ) (bs : List Bool) → filled_to w bs ++ drop w bs ≡ bs ++ replicate (w - length bs) false
unfolding filled_to
filled_rest zero bs = sym (ap (λ (k : ℕ). bs ++ replicate k false) (zero-sub (length bs)) ∙ append-nil bs)
filled_rest (suc w) [] = append-nil (filled_to (suc w) []) ∙ blank (suc w) ∙ ap (λ (k : ℕ). replicate k false) (sym (sub-zero (suc w)))
filled_rest (suc w) (b ∷ bs) =
    ap (λ (xs : List Bool). b ∷ xs) (filled_rest w bs ∙ ap (λ (k : ℕ). bs ++ replicate k false) (sym (suc-sub-suc w (length bs))))

padded : (w : ℕ) (bs : List Bool) → length bs ≤ w → filled_to w bs ≡ bs ++ replicate (w - length bs) false
padded w bs h =
    sym (append-nil (filled_to w bs)) ∙ ap (λ (xs : List Bool). filled_to w bs ++ xs) (sym (drop_of_length-le bs {i = w} h)) ∙ filled_rest w bs

bits_zero : (w : ℕ) → bits_of w 0 ≡ replicate w false
unfolding bits_of
bits_zero zero = refl
bits_zero (suc w) = ap₂ ◌∷◌ (ap (λ (n : ℕ). eqb (n % 2) 1) (zero-div (2 ^ w))) (bits_zero w)

-- a number in w bits at the head of a byte of w + k bits
headed : (w k n : ℕ) → n < 2 ^ w → value_of (filled_to (w + k) (bits_of w n)) ≡ n * 2 ^ k
headed w k n h =
    let l = length_bits w n in
    let left : w + k - length (bits_of w n) ≡ k = omega arith in
    let small : n * 2 ^ k + 0 < 2 ^ (w + k) = rw (add-zero (n * 2 ^ k)) (shl_lt w k h) in
    ap value_of
    (padded (w + k) (bits_of w n) (omega arith)
    ∙ ap (λ (m : ℕ). bits_of w n ++ replicate m false) left
    ∙ ap (λ (xs : List Bool). bits_of w n ++ xs) (sym (bits_zero k))
    ∙ sym (beside w k n 0 (pow_pos k)))
    ∙ value_bits (w + k) (n * 2 ^ k + 0)
    ∙ mod-eq_of_lt small
    ∙ add-zero (n * 2 ^ k)

-- ---- a byte that is stored

-- behind whole bytes the next byte holds the next bits, of which there are eight at most
next_byte : (n at : ℕ) (bs cs : List Bool) → length bs ≡ 8 * at → at < n → length cs ≤ 8
    → set (packed n bs) at (value_of (filled_to 8 cs)) ≡ packed n (bs ++ cs)
unfolding packed
next_byte zero at bs cs e h few = absurd (not-suc-le-zero h)
next_byte (suc n) zero [] cs e h few =
    ap (λ (xs : List Bool). value_of (filled_to 8 cs) ∷ packed n xs) (sym (drop_of_length-le cs {i = 8} few))
next_byte (suc n) zero (b ∷ bs) cs e h few = absurd (omega (arith, e))
next_byte (suc n) (suc at) bs cs e h few =
    let m : 8 ≤ length bs = omega arith in
    ap₂ ◌∷◌ (ap value_of (sym (enough 8 bs cs m)))
    (next_byte n at (drop 8 bs) cs (length-drop 8 bs ∙ omega arith) (le_of_suc-le-suc h) few ∙ ap (packed n) (sym (drop-append-le 8 bs cs m)))

-- a number in w bits at the head of the next byte
pub stored : (n at w x : ℕ) (bs : List Bool) → length bs ≡ 8 * at → at < n → w ≤ 8 → x < 2 ^ w
    → set (packed n bs) at (x * 2 ^ (8 - w)) ≡ packed n (bs ++ bits_of w x)
stored n at w x bs e h few small =
    let l = length_bits w x in
    let all : w + (8 - w) ≡ 8 = omega arith in
    let value : value_of (filled_to 8 (bits_of w x)) ≡ x * 2 ^ (8 - w) = subst (λ (m : ℕ). value_of (filled_to m (bits_of w x)) ≡ x * 2 ^ (8 - w)) all (headed w (8 - w) x small) in
    ap (set (packed n bs) at) (sym value) ∙ next_byte n at bs (bits_of w x) e h (omega arith)

-- ---- unpacked again

-- a byte's bits are those that it was made of
byte_back : (w : ℕ) (bs : List Bool) → bits_of w (value_of (filled_to w bs)) ≡ filled_to w bs
byte_back w bs = ap (λ (k : ℕ). bits_of k (value_of (filled_to w bs))) (sym (length_filled w bs)) ∙ bits_value (filled_to w bs)

-- bits that were packed into bytes with room for them unpack to themselves, and zeros
pub unpacked_packed : (n : ℕ) (bs : List Bool) → length bs ≤ 8 * n → unpacked (packed n bs) ≡ bs ++ replicate (8 * n - length bs) false
unfolding packed unpacked
unpacked_packed zero [] h = refl
unpacked_packed zero (b ∷ bs) h = absurd (omega (arith, h))
unpacked_packed (suc n) bs h =
    let rest = drop 8 bs in
    let l : length rest ≡ length bs - 8 = length-drop 8 bs in
    let more = 8 * n - length rest in
    let all : 8 - length bs + more ≡ 8 * suc n - length bs = omega arith in
    ap₂ ◌++◌ (byte_back 8 bs) (unpacked_packed n rest (omega arith))
    ∙ sym (append_assoc (filled_to 8 bs) rest (replicate more false))
    ∙ ap (λ (xs : List Bool). xs ++ replicate more false) (filled_rest 8 bs)
    ∙ append_assoc bs (replicate (8 - length bs) false) (replicate more false)
    ∙ ap (λ (xs : List Bool). bs ++ xs) (replicate-append-replicate (8 - length bs) more false ∙ ap (λ (k : ℕ). replicate k false) all)
