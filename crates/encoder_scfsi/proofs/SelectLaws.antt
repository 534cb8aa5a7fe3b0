-- The rule of a selection. What the table's rule says of the numbers 1 to 4 holds of the indices that they name; and each index named is
-- one of those given.
use Prim.Native.Nat.{ℕ, zero, suc, ◌+◌, ◌<◌, min}
use mathlib.Core.Path.{◌≡◌, refl, sym, ap, ap₂, ◌∙◌, subst}
use mathlib.Core.Bool.{Bool, true, false, cond}
use mathlib.Core.List.{List, [], ◌∷◌, map}
use mathlib.Core.Logic.{inl, inr}
use native.Mathlib.Omega.{arith, min_cases}
use types.Run.{OneOf}
use lib.Dec.{eqb}
use lib.IntN.{pos, ◌-ℤ◌}
use lib.ListN.{length, get_or}
use Rattle.audio_data.specs.declared.Scfsi.{Scfsi}
use Rattle.audio_data.specs.declared.Scfsi.TheVariants.{ThreePerGranule, Share01Then2, ShareAll, Share0Then12}
use Rattle.audio_data.specs.Scfsi.{Three, Agrees, sent, restored, of_code}
use Rattle.audio_data.proofs.ScfsiLaws.{comes_back, sent_count}
use Rattle.encoder_scfsi.specs.declared.DifferenceClass.{DifferenceClass}
use Rattle.encoder_scfsi.specs.declared.TransmissionPattern.{TransmissionPattern}
use Rattle.encoder_scfsi.specs.declared.ScfsiSelection.{ScfsiSelection}
use Rattle.encoder_scfsi.specs.Class.{difference_class}
use Rattle.encoder_scfsi.specs.TableC4.{Prescribed, prescribed_for, named, each, listed}
use Rattle.encoder_scfsi.specs.Storage.{stored}
use Rattle.encoder_scfsi.specs.Select.{adjusted, selection, bit, count_of, keep, marked, SelectionRule, SelectionIs}
use Rattle.encoder_scfsi.proofs.TableLaws.{Ruled, rule}

-- ---- the same function of each of three

each_agrees : (f : ℕ → ℕ) (s : Scfsi) (t : Three) → Agrees s t → Agrees s (each f t)
each_agrees f ThreePerGranule t h = tt
each_agrees f Share01Then2 t h = ap f h
each_agrees f ShareAll t h = (ap f h.0, ap f h.1)
each_agrees f Share0Then12 t h = ap f h

each_sent : (f : ℕ → ℕ) (s : Scfsi) (t : Three) → sent s (each f t) ≡ map f (sent s t)
each_sent f ThreePerGranule t = refl
each_sent f Share01Then2 t = refl
each_sent f ShareAll t = refl
each_sent f Share0Then12 t = refl

keep_map : (f : ℕ → ℕ) (b : Bool) (x : ℕ) (xs : List ℕ) → keep b (f x) (map f xs) ≡ map f (keep b x xs)
keep_map f true x xs = refl
keep_map f false x xs = refl

each_marked : (f : ℕ → ℕ) (p : TransmissionPattern) (t : Three) → marked p (each f t) ≡ map f (marked p t)
each_marked f p t =
    ap (λ xs. keep p.write0 (f t.first) (keep p.write1 (f t.second) xs)) (keep_map f p.write2 t.third [])
    ∙ ap (keep p.write0 (f t.first)) (keep_map f p.write1 t.second _)
    ∙ keep_map f p.write0 t.first _

-- as many are marked as flags are set
keep_count : (b : Bool) (x : ℕ) (xs : List ℕ) → length (keep b x xs) ≡ bit b + length xs
keep_count true x xs = omega arith
keep_count false x xs = omega arith

marked_count : (p : TransmissionPattern) (t : Three) → length (marked p t) ≡ count_of p
marked_count p t =
    let z = keep_count p.write2 t.third [] in
    let y = keep_count p.write1 t.second (keep p.write2 t.third []) in
    let x = keep_count p.write0 t.first (keep p.write1 t.second (keep p.write2 t.third [])) in
    omega arith

-- ---- each index that is named is one of those given

smallest : (a b c : ℕ) → OneOf (a ∷ b ∷ c ∷ []) (min a (min b c))
smallest a b c =
    min_cases a (min b c) _ (λ l e. inl e)
    (λ l e. min_cases b c _ (λ k d. inr (inl (e ∙ d))) (λ k d. inr (inr (e ∙ d))))

pub named_given : (a b c n : ℕ) → OneOf (a ∷ b ∷ c ∷ []) (named a b c n)
unfolding named
named_given a b c n = go (eqb n 1) (eqb n 2) (eqb n 3)
  where
    go : (x y z : Bool) → OneOf (a ∷ b ∷ c ∷ []) (cond x a (cond y b (cond z c (min a (min b c)))))
    go true y z = inl refl
    go false true z = inr (inl refl)
    go false false true = inr (inr refl)
    go false false false = smallest a b c

used_given : (a b c : ℕ) (t : Three) (i : ℕ) → i < 3 → OneOf (a ∷ b ∷ c ∷ []) (get_or (listed (each (named a b c) t)) i 0)
used_given a b c t zero h = named_given a b c t.first
used_given a b c t (suc zero) h = named_given a b c t.second
used_given a b c t (suc (suc zero)) h = named_given a b c t.third
used_given a b c t (suc (suc (suc i))) h = absurd (omega arith)

-- ---- the selection

adjusted_rule : (a b c : ℕ) (class1 class2 : DifferenceClass) (p : Prescribed) → Ruled p → SelectionRule a b c (adjusted a b c class1 class2 p)
unfolding adjusted
adjusted_rule a b c class1 class2 p r =
    let f = named a b c in
    let s = of_code p.scfsi in
    let m = each_marked f p.pattern p.used ∙ ap (map f) r.marks ∙ sym (each_sent f s p.used) in
    let g = each_agrees f s p.used r.agrees in
    record {
      given = used_given a b c p.used;
      agrees = g;
      marks = m;
      count = sym (marked_count p.pattern (each f p.used)) ∙ ap length m ∙ sent_count s (each f p.used);
      back = ap (restored s) m ∙ comes_back s (each f p.used) g;
    }

pub selection_rule : (a b c : ℕ) → SelectionRule a b c (selection a b c)
unfolding selection
selection_rule a b c = adjusted_rule a b c _ _ _ (rule (difference_class (pos a -ℤ pos b)) (difference_class (pos b -ℤ pos c)))

-- ---- what the code puts together from a row that it keeps

bit_back : (b : Bool) → eqb (bit b) 1 ≡ b
bit_back true = refl
bit_back false = refl

abbrev together : List ℕ → ℕ → ℕ → ℕ → Scfsi → DifferenceClass → DifferenceClass → ScfsiSelection
together row x y z s class1 class2 = record {
  used = x ∷ y ∷ z ∷ [];
  pattern = record { write0 = eqb (get_or row 3 0) 1; write1 = eqb (get_or row 4 0) 1; write2 = eqb (get_or row 5 0) 1 };
  scfsi = s;
  class1 = class1;
  class2 = class2;
}

put_together : (a b c : ℕ) (class1 class2 : DifferenceClass) (p : Prescribed) (row : List ℕ) (x y z : ℕ) (s : Scfsi) → row ≡ stored p
    → x ≡ named a b c (get_or row 0 0) → y ≡ named a b c (get_or row 1 0) → z ≡ named a b c (get_or row 2 0) → s ≡ of_code (get_or row 6 0)
    → together row x y z s class1 class2 ≡ adjusted a b c class1 class2 p
unfolding stored adjusted
put_together a b c class1 class2 p row x y z s r f g h k = rw (f, g, h, k, r) (simp bit_back)

pub selected : (a b c : ℕ) (class1 class2 : DifferenceClass) (row : List ℕ) (x y z : ℕ) (s : Scfsi)
    → class1 ≡ difference_class (pos a -ℤ pos b) → class2 ≡ difference_class (pos b -ℤ pos c) → row ≡ stored (prescribed_for class1 class2)
    → x ≡ named a b c (get_or row 0 0) → y ≡ named a b c (get_or row 1 0) → z ≡ named a b c (get_or row 2 0) → s ≡ of_code (get_or row 6 0)
    → SelectionIs a b c (together row x y z s class1 class2)
unfolding selection
selected a b c class1 class2 row x y z s e₁ e₂ r f g h k =
    let w : together row x y z s class1 class2 ≡ selection a b c =
    put_together a b c class1 class2 (prescribed_for class1 class2) row x y z s r f g h k
    ∙ ap₂ (λ u v. adjusted a b c u v (prescribed_for u v)) e₁ e₂ in
    record { whole = w; ruled = subst (SelectionRule a b c) (sym w) (selection_rule a b c) }
