-- The rows as the code keeps them are those of the printed tables, each once; and a subband's range tells its row, its width and its places.
use Rattle.std.specs.Prelude.{Some, slice_get}
use mathlib.Core.Path.{◌≡◌, refl, sym, ap, ap₂, ◌∙◌, subst}
use mathlib.Core.Bool.{Bool, true, false, not, cond, ◌&&◌}
use mathlib.Core.List.{List, [], ◌∷◌, map}
use Prim.Native.Nat.{ℕ, zero, suc, ◌+◌, ◌-◌, ◌*◌, ◌/◌, ◌%◌, ◌^◌, ◌≤◌, ◌<◌, min, suc-le-suc}
use native.Mathlib.Nat.{le_trans, le-suc}
use native.Mathlib.Decide.{dec_lt}
use native.Mathlib.Omega.{arith}
use borrow.Author.Tests.{le-leb, eq-eqb}
use lib.Bits.{bit_and, and_le_r}
use lib.Dec.{T, leb, ltb, eqb, ltb→lt, leb→le, eqb→eq, lit<, lit≤}
use lib.ListN.{length, get_or, get_or-eq_default}
use Rattle.tables.proofs.Rule.{first, second, all_below, below, all, all_at, ordered, ordered_at}
use Rattle.tables.proofs.Search.{there_only}
use Rattle.tables.proofs.Listed.{map_at}
use Rattle.bitalloc.specs.declared.BitAllocTable.{BitAllocTable}
use Rattle.bitalloc.specs.declared.BitAllocTable.TheVariants.{B2a, B2b, B2c, B2d, B1Lsf}
use Rattle.bitalloc.specs.Tables.{NbalIs, PlacesAre, ranges, nbal_of, row_of, sblimit_of}
use Rattle.bitalloc.specs.Storage.{row_of16, sixteen}
use Rattle.bitalloc.specs.Kept.{kept, kept_row, ends_of, reached, range_number, row_number, word_of, column_of, nbals, Subband, owners, KeptOnce, NbalInRange, PlacesInRange, RangeIs}
use Rattle.bitalloc.proofs.RowLaws.{no_row, no_field, sblimit_small}

-- ---- two rows are the same where their places are

alike : List ℕ → List ℕ → Bool
alike [] [] = true
alike [] (y ∷ ys) = false
alike (x ∷ xs) [] = false
alike (x ∷ xs) (y ∷ ys) = eqb x y && alike xs ys

alike→eq : (xs ys : List ℕ) → T (alike xs ys) → xs ≡ ys
unfolding alike
alike→eq [] [] t = refl
alike→eq [] (y ∷ ys) t = absurd t
alike→eq (x ∷ xs) [] t = absurd t
alike→eq (x ∷ xs) (y ∷ ys) t =
    ap₂ (λ (x : ℕ) (xs : List ℕ). x ∷ xs) (eqb→eq x y (first (eqb x y) _ t)) (alike→eq xs ys (second (eqb x y) _ t))

alike_self : (xs : List ℕ) → alike xs xs ≡ true
unfolding alike
alike_self [] = refl
alike_self (x ∷ xs) = rw (eq-eqb x x refl) (alike_self xs)

-- ---- each row is kept once

differ : List ℕ → List ℕ → Bool
differ xs ys = not (alike xs ys)

computed_apart : T (ordered differ kept)
unfolding kept differ alike
computed_apart = tt

kept_apart : (i j : ℕ) → i < j → j < length kept → kept_row i ≡ kept_row j → ⊥
unfolding kept_row differ
kept_apart i j l h e =
    let d = ordered_at differ kept [] computed_apart i j l h in
    subst (λ (b : Bool). T (not b)) (alike_self (get_or kept j [])) (subst (λ (row : List ℕ). T (differ row (get_or kept j []))) e d)

-- ---- the range of a subband tells its row, its width and its places

width_fits : BitAllocTable → ℕ → Bool
width_fits t sb = eqb (get_or nbals (range_number t sb) 0) (nbal_of t sb)

count_fits : BitAllocTable → ℕ → Bool
count_fits t sb = eqb (length (kept_row (2 * range_number t sb))) (length (row_of t sb))

row_fits : BitAllocTable → ℕ → Bool
row_fits t sb = alike (kept_row (row_number t sb)) (row_of t sb)

-- what is proved of a subband, as one test
fits : BitAllocTable → ℕ → Bool
fits t sb = width_fits t sb && (count_fits t sb && row_fits t sb)

computed_fits : (t : BitAllocTable) → T (all_below 32 (fits t))
unfolding fits width_fits count_fits row_fits alike kept kept_row row_number nbal_of row_of ranges
computed_fits B2a = tt
computed_fits B2b = tt
computed_fits B2c = tt
computed_fits B2d = tt
computed_fits B1Lsf = tt

-- no more ends are reached than there are
reached_few : (sb : ℕ) (es : List ℕ) → reached sb es ≤ length es
reached_few sb [] = lit≤ tt
reached_few sb (e ∷ es) = go (leb e sb) (reached_few sb es)
  where
    go : (b : Bool) → reached sb es ≤ length es → cond b (suc (reached sb es)) (reached sb es) ≤ suc (length es)
    go true h = suc-le-suc h
    go false h = le_trans h (le-suc (length es))

range_small : (t : BitAllocTable) (sb : ℕ) → range_number t sb ≤ 4
unfolding range_number
range_small B2a sb = reached_few sb (ends_of B2a)
range_small B2b sb = reached_few sb (ends_of B2b)
range_small B2c sb = reached_few sb (ends_of B2c)
range_small B2d sb = reached_few sb (ends_of B2d)
range_small B1Lsf sb = reached_few sb (ends_of B1Lsf)

-- from 32 on every end is reached
reached_all : (sb : ℕ) (es : List ℕ) → T (all (λ e. leb e 32) es) → 32 ≤ sb → reached sb es ≡ length es
reached_all sb [] t h = refl
reached_all sb (e ∷ es) t h =
    rw (le-leb e sb (le_trans (leb→le e 32 (first (leb e 32) _ t)) h)) (ap suc (reached_all sb es (second (leb e 32) _ t) h))

last_range : (t : BitAllocTable) (sb : ℕ) → 32 ≤ sb → range_number t sb ≡ 4
unfolding range_number
last_range B2a sb h = reached_all sb (ends_of B2a) tt h
last_range B2b sb h = reached_all sb (ends_of B2b) tt h
last_range B2c sb h = reached_all sb (ends_of B2c) tt h
last_range B2d sb h = reached_all sb (ends_of B2d) tt h
last_range B1Lsf sb h = reached_all sb (ends_of B1Lsf) tt h

-- behind the last row there is none
pub none_kept : (n : ℕ) → 8 ≤ n → kept_row n ≡ []
unfolding kept kept_row
none_kept n h = get_or-eq_default kept [] {n = n} h

no_number : (t : BitAllocTable) (sb : ℕ) → 8 ≤ 2 * range_number t sb → 8 ≤ row_number t sb
unfolding row_number
no_number t sb h = omega arith

-- what a subband's range tells
record Told (t : BitAllocTable) (sb : ℕ) : Type 0 where
  pub width : get_or nbals (range_number t sb) 0 ≡ nbal_of t sb
  pub count : length (kept_row (2 * range_number t sb)) ≡ length (row_of t sb)
  pub row : kept_row (row_number t sb) ≡ row_of t sb

told : (t : BitAllocTable) (sb : ℕ) → Told t sb
unfolding fits width_fits count_fits row_fits
told t sb = go (dec_lt sb 32)
  where
    go : Dec (sb < 32) → Told t sb
    go (yes h) =
        let both = below 32 (fits t) (computed_fits t) sb h in
        let rest = second (width_fits t sb) _ both in
        record {
          width = eqb→eq _ _ (first (width_fits t sb) _ both);
          count = eqb→eq _ _ (first (count_fits t sb) _ rest);
          row = alike→eq _ _ (second (count_fits t sb) _ rest);
        }
    go (no h) =
        let l : 32 ≤ sb = omega arith in
        let beyond : sblimit_of t ≤ sb = le_trans (sblimit_small t) (le_trans (lit≤ tt) l) in
        let last = last_range t sb l in
        let eight : 8 ≤ 2 * range_number t sb = omega arith in
        record {
          width = rw last (sym (no_field t sb beyond));
          count = ap length (none_kept (2 * range_number t sb) eight ∙ sym (no_row t sb beyond));
          row = none_kept (row_number t sb) (no_number t sb eight) ∙ sym (no_row t sb beyond);
        }

-- ---- the promise

computed_owned : map (λ s. row_of s.table s.number) owners ≡ kept
unfolding kept row_of ranges
computed_owned = refl

is_carried : Subband → Bool
is_carried s = ltb s.number (sblimit_of s.table)

computed_carried : T (all is_carried owners)
unfolding is_carried
computed_carried = tt

owner_carried : (n : ℕ) (s : Subband) → slice_get owners n ≡ Some s → s.number < sblimit_of s.table
unfolding is_carried
owner_carried n s e =
    let d : Subband = record { table = B2a; number = 0 } in
    let is = (there_only owners n s d e).1 in
    ltb→lt _ _ (subst (λ (s : Subband). T (is_carried s)) is (all_at is_carried owners d tt computed_carried n))

pub kept_once : KeptOnce
kept_once = record {
  apart = kept_apart;
  owned = computed_owned;
  carried = owner_carried;
  found = λ t sb. (told t sb).row;
}

-- ---- the four ends compared at once

-- what the code makes of a subband and the word of the ends; 16843009 is 0x01010101, and 2155905152 is 0x80808080
abbrev pub counted : ℕ → ℕ → ℕ
counted sb ends = bit_and (bit_and ((sb * 16843009 + (2155905152 - ends)) / 2 ^ 7) 16843009 * 16843009 / 2 ^ 24) 7

counts_right : BitAllocTable → ℕ → Bool
counts_right t sb = eqb (counted sb (word_of (ends_of t))) (range_number t sb)

computed_counted : (t : BitAllocTable) → T (all_below 33 (counts_right t))
unfolding counts_right range_number
computed_counted B2a = tt
computed_counted B2b = tt
computed_counted B2c = tt
computed_counted B2d = tt
computed_counted B1Lsf = tt

counted_is : (t : BitAllocTable) (sb : ℕ) → counted (min sb 32) (word_of (ends_of t)) ≡ range_number t sb
unfolding counts_right
counted_is t sb = go (dec_lt sb 32)
  where
    up_to : (n : ℕ) → n < 33 → counted n (word_of (ends_of t)) ≡ range_number t n
    up_to n h = eqb→eq _ _ (below 33 (counts_right t) (computed_counted t) n h)

    go : Dec (sb < 32) → counted (min sb 32) (word_of (ends_of t)) ≡ range_number t sb
    go (yes h) = let e : min sb 32 ≡ sb = omega arith in rw e (up_to sb (omega arith))
    go (no h) =
        let e : min sb 32 ≡ 32 = omega arith in
        rw e (up_to 32 (lit< tt) ∙ last_range t 32 (lit≤ tt) ∙ sym (last_range t sb (omega arith)))

pub range_is : (t : BitAllocTable) (sb at ends : ℕ) → at ≡ min sb 32 → ends ≡ word_of (ends_of t) → RangeIs t sb (counted at ends)
range_is t sb at ends a e =
    let is = ap₂ counted a e ∙ counted_is t sb in
    record { whole = is; most = subst (λ (n : ℕ). n ≤ 4) (sym is) (range_small t sb) }

pub ends_small : (t : BitAllocTable) → word_of (ends_of t) ≤ 2155905152
ends_small B2a = lit≤ tt
ends_small B2b = lit≤ tt
ends_small B2c = lit≤ tt
ends_small B2d = lit≤ tt
ends_small B1Lsf = lit≤ tt

pub sum_fits : (x : ℕ) → bit_and x 16843009 * 16843009 < 2 ^ 64
sum_fits x = omega (arith, and_le_r x 16843009)

pub column_small : (t : BitAllocTable) → column_of t ≤ 1
column_small B2a = lit≤ tt
column_small B2b = lit≤ tt
column_small B2c = lit≤ tt
column_small B2d = lit≤ tt
column_small B1Lsf = lit≤ tt

-- ---- a row as the code has it

pub kept_at : (number : ℕ) (d : List ℕ) → number < 8 → get_or (map sixteen kept) number d ≡ sixteen (kept_row number)
unfolding kept_row
kept_at number d h = map_at sixteen kept number [] d (rw count h)
  where
    count : length kept ≡ 8
    count = unfold kept in refl

-- ---- the functions of the table

pub nbal_is : (t : BitAllocTable) (sb range r : ℕ) → range ≡ range_number t sb → NbalInRange range r → NbalIs t sb r
nbal_is t sb range r e p = record { whole = p.whole ∙ rw e (told t sb).width; small = p.small }

pub places_are : (t : BitAllocTable) (sb range r : ℕ) → range ≡ range_number t sb → PlacesInRange range r → PlacesAre t sb r
places_are t sb range r e p = record { whole = p.whole ∙ rw e (told t sb).count; most = p.most }

pub row_is : (t : BitAllocTable) (sb range : ℕ) (r : List ℕ) → range ≡ range_number t sb → r ≡ sixteen (kept_row (2 * range + column_of t)) → r ≡ row_of16 t sb
unfolding row_of16 row_number
row_is t sb range r e q = q ∙ ap (λ (n : ℕ). sixteen (kept_row (2 * n + column_of t))) e ∙ ap sixteen (told t sb).row

-- ---- the places of a range's rows: one for each code of its fields, and none where it has no field

pub no_places : (range n : ℕ) → n ≡ get_or nbals range 0 → n ≡ 0 → PlacesInRange range 0
unfolding kept kept_row
no_places zero n e z = absurd (let f = e in omega arith)
no_places (suc zero) n e z = absurd (let f = e in omega arith)
no_places (suc (suc zero)) n e z = absurd (let f = e in omega arith)
no_places (suc (suc (suc zero))) n e z = absurd (let f = e in omega arith)
no_places (suc (suc (suc (suc k)))) n e z =
    record { whole = ap length (sym (none_kept (2 * suc (suc (suc (suc k)))) (omega arith))); most = lit≤ tt }

pub places_counted : (range n : ℕ) → n ≡ get_or nbals range 0 → (n ≡ 0 → ⊥) → PlacesInRange range (1 * 2 ^ n % 2 ^ 64)
unfolding kept kept_row
places_counted zero n e d = rw e (record { whole = refl; most = lit≤ tt })
places_counted (suc zero) n e d = rw e (record { whole = refl; most = lit≤ tt })
places_counted (suc (suc zero)) n e d = rw e (record { whole = refl; most = lit≤ tt })
places_counted (suc (suc (suc zero))) n e d = rw e (record { whole = refl; most = lit≤ tt })
places_counted (suc (suc (suc (suc k)))) n e d = absurd (d e)
