-- Laws of what is written, and of arrays.
use mathlib.Core.Path.{◌≡◌, refl, sym, ap, ◌∙◌}
use mathlib.Core.Bool.{Bool, true, false}
use mathlib.Core.List.{List, [], ◌∷◌, ◌++◌, append-nil, map}
use mathlib.Core.Logic.{◌⊎◌, inl, inr}
use Prim.Native.Nat.{ℕ, ◌≤◌, ◌<◌, min}
use native.Mathlib.Omega.{arith}
use mir.Val.{bool_byte}
use lib.ListN.{length, set, take, drop, length-append, length-drop, length-map, drop_of_length-le}
use lib.Seq.{ext_get_or, take_all, take-append-le}
use denote.Param.Members.{Mut}
use Rattle.std.proofs.Math.Nat.{min-eq_left, min-eq_right}
use Rattle.std.proofs.lemmas.Bool.{cases_lt}
use Rattle.std.proofs.lemmas.List.{get_or-map}
use Rattle.std.specs.Fn.{Called}
use Rattle.std.specs.Array.{IsMapOf}
use Rattle.encoder_scfsi.specs.Select.{bit}
use Rattle.c_answers.specs.Answers.{Meaning, meant, Reply, answered, written, fitted, Answers}

module _ {A : Type 0} where
  long_written : (vs old : List A) → length vs ≤ length old → length (written vs old) ≤ length old
  long_written vs old h = simp (length-append, length-drop) (omega arith)

  -- values that the slice is long enough for
  all_fit : (vs old : List A) → length vs ≤ length old → fitted vs old ≡ written vs old
  unfolding fitted
  all_fit vs old h = take_all (length old) (written vs old) (long_written vs old h)

  pub fits : (vs old new : List A) → length vs ≤ length old → new ≡ fitted vs old → new ≡ written vs old
  fits vs old new h e = e ∙ all_fit vs old h

-- one value written, and two
module _ {A : Type 0} where
  pub one_written : (old : List A) (v : A) → 1 ≤ length old → set old 0 v ≡ written (v ∷ []) old
  one_written [] v h = absurd (omega arith)
  one_written (x ∷ old) v h = refl

  pub two_written : (old : List A) (v w : A) → 2 ≤ length old → set (set old 0 v) 1 w ≡ written (v ∷ w ∷ []) old
  two_written [] v w h = absurd (omega arith)
  two_written (x ∷ []) v w h = absurd (omega arith)
  two_written (x ∷ y ∷ old) v w h = refl

-- arguments that mean something get the reply g of what is found, where that is the reply f to them
pub replied : {X W A : Type 0} (m : Meaning X) (f : X → Reply A) (old : List A) (x : X) (r : ℕ) (new : List A) (g : W → Reply A) (w v : W) → m ≡ meant x
    → w ≡ v → g v ≡ f x → Answers (g w) old r new → Answers (answered m f) old r new
replied m f old x r new g w v e p q a = rw (e, ← q, ← p) a

-- ---- a flag as a number

pub as_bit : (b : Bool) → bool_byte b ≡ bit b
as_bit true = refl
as_bit false = refl

-- ---- as many values as the slice holds

module _ {A : Type 0} (vs old : List A) where
  put_few : length vs ≤ length old → take (length vs) vs ++ drop (length vs) old ≡ fitted vs old
  put_few h = ap (λ (r : List A). r ++ drop (length vs) old) (take_all (length vs) vs (omega arith)) ∙ sym (all_fit vs old h)

  put_many : length old ≤ length vs → take (length old) vs ++ drop (length old) old ≡ fitted vs old
  unfolding fitted
  put_many h =
      ap (λ (r : List A). take (length old) vs ++ r) (drop_of_length-le old {i = length old} (omega arith)) ∙ append-nil (take (length old) vs)
      ∙ sym (take-append-le (length old) vs (drop (length vs) old) h)

  -- the first values, and behind them the slice as it was
  pub put_front : (n : ℕ) (front : List A) → n ≡ min (length vs) (length old) → front ≡ take n vs → front ++ drop n old ≡ fitted vs old
  put_front n front e p = rw (p, e) (go (cases_lt (length vs) (length old)))
    where
      go : (length vs < length old) ⊎ (length old ≤ length vs)
          → take (min (length vs) (length old)) vs ++ drop (min (length vs) (length old)) old ≡ fitted vs old
      go (inl h) = let l : length vs ≤ length old = omega arith in rw (min-eq_left l) (put_few l)
      go (inr h) = rw (min-eq_right h) (put_many h)

-- ---- the elements of an array, each made into another

-- what `map` makes of them, where each call answers h
pub mapped : {F A B : Type 0} (g : Mut F (A × Unit {0}) B) (f : F) (h : A → B) (d : A) (e : B) (xs : List A) (ys : List B) (n : ℕ) → length xs ≡ n
    → ((p : F) (x : A) (y : B) (q : F) → Called g p (x, tt) y q → y ≡ h x) → IsMapOf g f xs ys n → ys ≡ map h xs
mapped g f h d e xs ys n l each m =
    ext_get_or e ys (map h xs) (m.long ∙ sym l ∙ sym (length-map xs h))
    (λ i b.
    let k : i < n = let s = m.long in omega arith in
    let call = m.at i d e k in
    each _ _ _ _ call.2 ∙ sym (get_or-map h xs i d e (omega arith)))
