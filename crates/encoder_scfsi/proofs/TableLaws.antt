-- Where the row of two classes stands in Table C.4, and the rule of its rows, each by one test that antt computes over the table.
use Rattle.std.specs.Prelude.{Option, None, Some}
use Prim.Native.Nat.{ℕ, zero, suc, ◌+◌, ◌-◌, ◌*◌, ◌<◌}
use mathlib.Core.Path.{◌≡◌, refl, sym, ap, ◌∙◌, subst}
use mathlib.Core.Bool.{Bool, true, false, ◌&&◌}
use mathlib.Core.List.{List, [], ◌∷◌, map}
use native.Mathlib.Nat.{le_of_suc-le-suc, not-suc-le-zero}
use native.Mathlib.Omega.{arith}
use lib.Dec.{T, eqb, eqb→eq, lit<}
use lib.ListN.{length, get_or}
use Rattle.tables.specs.Search.{place, find, entry_at}
use Rattle.tables.proofs.Rule.{first, second, all_below, below, all, all_at}
use Rattle.tables.proofs.Search.{there}
use Rattle.audio_data.specs.declared.Scfsi.{Scfsi}
use Rattle.audio_data.specs.declared.Scfsi.TheVariants.{ThreePerGranule, Share01Then2, ShareAll, Share0Then12}
use Rattle.audio_data.specs.Scfsi.{Three, Agrees, sent, of_code}
use Rattle.encoder_scfsi.specs.declared.DifferenceClass.{DifferenceClass}
use Rattle.encoder_scfsi.specs.declared.DifferenceClass.TheVariants.{Class1, Class2, Class3, Class4, Class5}
use Rattle.encoder_scfsi.specs.Class.{class_number}
use Rattle.encoder_scfsi.specs.TableC4.{Prescribed, Row, table_c4, keyed, pattern_row, prescribed_in, prescribed_for}
use Rattle.encoder_scfsi.specs.Storage.{stored, kept}
use Rattle.encoder_scfsi.specs.Select.{marked}

-- ---- every pair of classes has its row, by rising class of dscf1 and then of dscf2

-- its place
abbrev pub place_of : ℕ → ℕ → ℕ
place_of c d = 5 * (c - 1) + (d - 1)

-- what would stand past the end
abbrev pub no_row : Row
no_row = record { class1 = 0; class2 = 0; prescribed = prescribed_in None }

-- found, and at n
is_at : Option ℕ → ℕ → Bool
is_at None n = false
is_at (Some k) n = eqb k n

is_at_lem : (o : Option ℕ) (n : ℕ) → T (is_at o n) → o ≡ Some n
unfolding is_at
is_at_lem None n t = absurd t
is_at_lem (Some k) n t = ap Some (eqb→eq k n t)

-- the row of the classes i + 1 and j + 1 stands at its place
placed : ℕ → ℕ → Bool
placed i j = is_at (place (keyed (suc i) (suc j)) table_c4) (place_of (suc i) (suc j))

all_placed : T (all_below 5 (λ i. all_below 5 (placed i)))
unfolding placed is_at table_c4
all_placed = tt

row_count : length table_c4 ≡ 25
unfolding table_c4
row_count = refl

placed_at : (i j : ℕ) → i < 5 → j < 5 → find (keyed (suc i) (suc j)) table_c4 ≡ Some (get_or table_c4 (place_of (suc i) (suc j)) no_row)
unfolding placed
placed_at i j h g =
    ap (entry_at table_c4) (is_at_lem _ _ (below 5 (placed i) (below 5 (λ i. all_below 5 (placed i)) all_placed i h) j g))
    ∙ there table_c4 (place_of (suc i) (suc j)) no_row (rw row_count (omega arith))

numbered : (c : DifferenceClass) → (i : ℕ) × (i < 5) × (class_number c ≡ suc i)
numbered Class1 = (0, lit< tt, refl)
numbered Class2 = (1, lit< tt, refl)
numbered Class3 = (2, lit< tt, refl)
numbered Class4 = (3, lit< tt, refl)
numbered Class5 = (4, lit< tt, refl)

pub row_found : (c d : DifferenceClass) → pattern_row c d ≡ Some (get_or table_c4 (place_of (class_number c) (class_number d)) no_row)
unfolding pattern_row
row_found c d =
    let n = numbered c in
    let m = numbered d in
    rw (n.2, m.2) (placed_at n.0 m.0 n.1 m.1)

-- ---- what the code reads there

map_at : {A B : Type 0} (f : A → B) (xs : List A) (i : ℕ) (d : A) (e : B) → i < length xs → get_or (map f xs) i e ≡ f (get_or xs i d)
map_at f [] i d e h = absurd (not-suc-le-zero h)
map_at f (x ∷ xs) zero d e h = refl
map_at f (x ∷ xs) (suc i) d e h = map_at f xs i d e (le_of_suc-le-suc h)

pub kept_at : (c d : DifferenceClass) (e : List ℕ) → get_or kept (place_of (class_number c) (class_number d)) e ≡ stored (prescribed_for c d)
unfolding kept prescribed_for
kept_at c d e =
    let n = numbered c in
    let m = numbered d in
    map_at (λ r. stored r.prescribed) table_c4 (place_of (class_number c) (class_number d)) no_row e (rw row_count (omega arith))
    ∙ ap (λ o. stored (prescribed_in o)) (sym (row_found c d))

-- ---- the rule of the rows: the numbers of the scalefactors used agree with the sharing of the scfsi, and those marked are those sent

-- the test of `Agrees`
agreed : Scfsi → Three → Bool
agreed ThreePerGranule t = true
agreed Share01Then2 t = eqb t.first t.second
agreed ShareAll t = eqb t.first t.second && eqb t.second t.third
agreed Share0Then12 t = eqb t.second t.third

agreed_agrees : (s : Scfsi) (t : Three) → T (agreed s t) → Agrees s t
unfolding agreed
agreed_agrees ThreePerGranule t h = tt
agreed_agrees Share01Then2 t h = eqb→eq _ _ h
agreed_agrees ShareAll t h = (eqb→eq _ _ (first (eqb t.first t.second) _ h), eqb→eq _ _ (second (eqb t.first t.second) _ h))
agreed_agrees Share0Then12 t h = eqb→eq _ _ h

-- two lists are equal
same : List ℕ → List ℕ → Bool
same [] [] = true
same [] (y ∷ ys) = false
same (x ∷ xs) [] = false
same (x ∷ xs) (y ∷ ys) = eqb x y && same xs ys

same_is : (xs ys : List ℕ) → T (same xs ys) → xs ≡ ys
unfolding same
same_is [] [] t = refl
same_is [] (y ∷ ys) t = absurd t
same_is (x ∷ xs) [] t = absurd t
same_is (x ∷ xs) (y ∷ ys) t = cc (eqb→eq x y (first (eqb x y) (same xs ys) t), same_is xs ys (second (eqb x y) (same xs ys) t))

-- the rule as one test
ruled : Prescribed → Bool
ruled p =
    let s = of_code p.scfsi in
    agreed s p.used && same (marked p.pattern p.used) (sent s p.used)

all_ruled : T (all (λ r. ruled r.prescribed) table_c4)
unfolding ruled agreed same table_c4
all_ruled = tt

no_row_ruled : T (ruled no_row.prescribed)
unfolding ruled agreed same
no_row_ruled = tt

pub record Ruled (p : Prescribed) : Type 0 where
  pub agrees : Agrees (of_code p.scfsi) p.used
  pub marks : marked p.pattern p.used ≡ sent (of_code p.scfsi) p.used

rule_of : (p : Prescribed) → T (ruled p) → Ruled p
unfolding ruled
rule_of p t =
    let a = agreed (of_code p.scfsi) p.used in
    record { agrees = agreed_agrees _ _ (first a _ t); marks = same_is _ _ (second a _ t) }

pub rule : (c d : DifferenceClass) → Ruled (prescribed_for c d)
unfolding prescribed_for
rule c d =
    subst (λ o. Ruled (prescribed_in o)) (sym (row_found c d))
    (rule_of _ (all_at (λ r. ruled r.prescribed) table_c4 no_row no_row_ruled all_ruled (place_of (class_number c) (class_number d))))
