-- Digits in twos, one digit more, and the bytes that a buffer has of them.
use mathlib.Core.Path.{◌≡◌, refl, sym, ap, ◌∙◌}
use mathlib.Core.Bool.{Bool, true, false}
use Rattle.std.specs.Prelude.{Option, Some, None, cond}
use Rattle.std.specs.Char.{digit_value}
use Rattle.tables.proofs.Rule.{below}
use Rattle.std.proofs.lemmas.Option.{none-some, same_Some}
use mathlib.Core.List.{List, [], ◌∷◌, ◌++◌}
use Prim.Native.Nat.{ℕ, suc, ◌+◌, ◌*◌, ◌≤◌, ◌<◌}
use native.Mathlib.Numerals.{add-one}
use native.Mathlib.Omega.{arith}
use lib.Dec.{T, eqb, ltb}
use lib.ListN.{length, take, set, length-append, length-set}
use lib.Seq.{take-suc-set}
use borrow.Author.Tests.{lt-ltb, ltb-true, eqb-true}
use Rattle.hex_text.specs.declared.Digits.{Digits}
use Rattle.hex_text.specs.Hex.{digit_of, paired, is_odd}
use Rattle.hex_text.specs.Walk.{left_over, Held}

-- ---- what a byte is worth

-- by the value that the library gives a letter or digit
abbrev worth_of : ℕ → Option ℕ
worth_of b = cond (ltb (digit_value b) 16) (Some (digit_value b)) None

abbrev alike : Option ℕ → Option ℕ → Bool
alike None None = true
alike None (Some y) = false
alike (Some x) None = false
alike (Some x) (Some y) = eqb x y

T-true : (t : Bool) → T t → t ≡ true
T-true true x = refl
T-true false x = elim x [ ]

alike_is : (a b : Option ℕ) → T (alike a b) → a ≡ b
alike_is None None t = refl
alike_is None (Some y) t = elim t [ ]
alike_is (Some x) None t = elim t [ ]
alike_is (Some x) (Some y) t = ap Some (eqb-true x y (T-true (eqb x y) t))

digit_alike : (b : ℕ) → b < 256 → digit_of b ≡ worth_of b
unfolding digit_of
digit_alike b h = alike_is (digit_of b) (worth_of b) (all_below_256 b h)
  where
    all_below_256 : (b : ℕ) → b < 256 → T (alike (digit_of b) (worth_of b))
    all_below_256 = below 256 (λ b. alike (digit_of b) (worth_of b)) tt

module _ (b : ℕ) (h : b < 256) where
  pub digit_read : (d : ℕ) → digit_value b < 16 → d ≡ digit_value b → Some d ≡ digit_of b
  digit_read d l e = rw (digit_alike b h, lt-ltb (digit_value b) 16 l, e)

  pub no_digit : (digit_value b < 16 → ⊥) → None ≡ digit_of b
  no_digit f = rw (digit_alike b h) (go (ltb (digit_value b) 16) refl)
    where
      go : (t : Bool) → ltb (digit_value b) 16 ≡ t → None ≡ cond t (Some (digit_value b)) None
      go true g = absurd (f (ltb-true (digit_value b) 16 g))
      go false g = refl

-- ---- in twos

pub few : (ds : List ℕ) → 2 * length (paired ds) ≤ length ds
few [] = omega arith
few (h ∷ []) = omega arith
few (h ∷ l ∷ ds) = omega (arith, few ds)

-- one is left over of an odd number
pub odd_left : (ds : List ℕ) (x : ℕ) → left_over ds ≡ Some x → is_odd ds ≡ true
odd_left [] x e = absurd (none-some x e)
odd_left (h ∷ []) x e = refl
odd_left (h ∷ l ∷ ds) x e = odd_left ds x e

pub none_left : (ds : List ℕ) → left_over ds ≡ None → is_odd ds ≡ false
none_left [] e = refl
none_left (h ∷ []) e = absurd (none-some h (sym e))
none_left (h ∷ l ∷ ds) e = none_left ds e

module _ (d : ℕ) where
  behind_even : (ds : List ℕ) → left_over ds ≡ None → (left_over (ds ++ d ∷ []) ≡ Some d) × (paired (ds ++ d ∷ []) ≡ paired ds)
  behind_even [] e = (refl, refl)
  behind_even (h ∷ []) e = absurd (none-some h (sym e))
  behind_even (h ∷ l ∷ ds) e = let r = behind_even ds e in (r.0, ap (λ (bs : List ℕ). (16 * h + l) ∷ bs) r.1)

  behind_odd : (ds : List ℕ) (x : ℕ) → left_over ds ≡ Some x → (left_over (ds ++ d ∷ []) ≡ None) × (paired (ds ++ d ∷ []) ≡ paired ds ++ (16 * x + d) ∷ [])
  behind_odd [] x e = absurd (none-some x e)
  behind_odd (h ∷ []) x e = (refl, ap (λ (n : ℕ). (16 * n + d) ∷ []) (same_Some h x e))
  behind_odd (h ∷ l ∷ ds) x e = let r = behind_odd ds x e in (r.0, ap (λ (bs : List ℕ). (16 * h + l) ∷ bs) r.1)

-- ---- in a buffer

module _ (ds : List ℕ) (d : Digits) (digit : ℕ) (old : List ℕ) (h : Held ds d old) where
  -- a high digit
  pub high_put : (r : Digits) → d.high ≡ None → r.high ≡ Some digit → r.count ≡ d.count → Held (ds ++ digit ∷ []) r old
  high_put r e high count =
      let p = behind_even digit ds (sym h.high ∙ e) in
      record {
        high = high ∙ sym p.0;
        count = count ∙ h.count ∙ ap length (sym p.1);
        stored = λ l. ap (λ (n : ℕ). take n old) count ∙ h.stored (omega arith) ∙ sym p.1;
      }

  -- a low digit: the byte behind those that are there
  pub low_put : (r : Digits) (new : List ℕ) (x : ℕ) → d.high ≡ Some x → r.high ≡ None → r.count ≡ d.count + 1
      → new ≡ set old d.count (16 * x + digit) → Held (ds ++ digit ∷ []) r new
  low_put r new x e high count put =
      let p = behind_odd digit ds x (sym h.high ∙ e) in
      let byte = 16 * x + digit in
      let long : length new ≡ length old = ap length put ∙ length-set old d.count byte in
      record {
        high = high ∙ sym p.0;
        count =
            let more : d.count + 1 ≡ length (paired ds ++ (16 * x + digit) ∷ []) =
            omega (arith, h.count, length-append (paired ds) ((16 * x + digit) ∷ [])) in
            count ∙ more ∙ ap length (sym p.1);
        stored = λ l.
            let room : d.count < length old = omega arith in
            ap (λ (n : ℕ). take n new) (count ∙ add-one d.count)
            ∙ ap (take (suc d.count)) put
            ∙ take-suc-set old d.count byte room
            ∙ ap (λ (bs : List ℕ). bs ++ byte ∷ []) (h.stored (omega arith))
            ∙ sym p.1;
      }
