-- Laws of the digits of a multiplier, and of the lengths of rows.
use mathlib.Core.Path.{◌≡◌, refl, sym, ap, ap₂, ◌∙◌}
use mathlib.Core.List.{List, [], ◌∷◌, ◌++◌, append_assoc, append-nil}
use Prim.Native.Nat.{ℕ, zero, suc, ◌+◌, ◌-◌, ◌/◌, ◌%◌, ◌≤◌, ◌<◌}
use native.Mathlib.Omega.{arith}
use lib.ListN.{length, take, drop, set, get_or, length-append, length-set, length-take, length-drop}
use lib.Seq.{drop-cons, drop-set-lt, get_or-set_same}
use Rattle.tables.specs.Scalefactors.{printed}
use Rattle.audio_data.specs.Scfsi.{Three}
use Rattle.layout.specs.Slots.{channel_in, subband_in}
use Rattle.plan_text.specs.Quoted.{text}
use Rattle.text_line.specs.Line.{aligned}
use Rattle.text_line.specs.Number.{number_text}
use Rattle.text_line.proofs.LineLaws.{column_length}
use Rattle.text_line.proofs.NumberLaws.{few_digits}
use Rattle.side_rows.specs.Rows.{last_digits, pointed_text, multiplier_text, row_start, indices_text, multiplier_column, row_line}
use Rattle.side_rows.specs.Printed.{Spelled}

-- ---- digits from the last to the first

-- those from `i` on are spelled, and those of `rest` are to come
pub record Spelling (n : ℕ) (digits : List ℕ) (rest i : ℕ) : Type 0 where
  pub whole : last_digits 15 n ≡ last_digits i rest ++ drop i digits
  pub long : length digits ≡ 15
  pub within : i ≤ 15

pub none_spelled : (n : ℕ) (digits : List ℕ) → length digits ≡ 15 → drop 15 digits ≡ [] → Spelling n digits n 15
none_spelled n digits l e = record {
  whole = sym (append-nil (last_digits 15 n)) ∙ ap (λ (t : List ℕ). last_digits 15 n ++ t) (sym e);
  long = l;
  within = omega arith;
}

one_digit : (rest i : ℕ) → 0 < i → last_digits i rest ≡ last_digits (i - 1) (rest / 10) ++ ((48 + rest % 10) ∷ [])
unfolding last_digits
one_digit rest zero h = absurd (omega arith)
one_digit rest (suc i) h = let e : suc i - 1 ≡ i = omega arith in ap (λ (k : ℕ). last_digits k (rest / 10) ++ ((48 + rest % 10) ∷ [])) (sym e)

pub one_spelled : (n : ℕ) (digits : List ℕ) (rest i : ℕ) → Spelling n digits rest i → 0 < i
    → Spelling n (set digits (i - 1) (48 + rest % 10)) (rest / 10) (i - 1)
one_spelled n digits rest i s h =
    let k = i - 1 in
    let d = 48 + rest % 10 in
    let up : suc k ≡ i = omega arith in
    let here : k < length digits = omega (arith, s.long, s.within) in
    let there : k < length (set digits k d) = omega (arith, length-set digits k d) in
    let rest_is : drop k (set digits k d) ≡ d ∷ drop i digits =
    drop-cons (set digits k d) k 0 there
    ∙ ap (λ (x : ℕ). x ∷ drop (suc k) (set digits k d)) (get_or-set_same digits k d 0 here)
    ∙ ap (λ (t : List ℕ). d ∷ t) (drop-set-lt (suc k) digits k d (omega arith) ∙ ap (λ (j : ℕ). drop j digits) up) in
    record {
      whole =
          s.whole
          ∙ ap (λ (t : List ℕ). t ++ drop i digits) (one_digit rest i h)
          ∙ append_assoc (last_digits k (rest / 10)) (d ∷ []) (drop i digits)
          ∙ ap (λ (t : List ℕ). last_digits k (rest / 10) ++ t) (sym rest_is);
      long = length-set digits k d ∙ s.long;
      within = omega (arith, s.within);
    }

pub all_spelled : (n : ℕ) (digits : List ℕ) (rest i : ℕ) → Spelling n digits rest i → i ≤ 0 → Spelled n digits
unfolding last_digits
all_spelled n digits rest i s h =
    let z : i ≡ 0 = omega arith in
    record { whole = sym (s.whole ∙ ap (λ (k : ℕ). last_digits k rest ++ drop k digits) z); long = s.long }

-- with the point
pub multiplier_is : (digits front back : List ℕ) (n index : ℕ) → Spelled n digits → n ≡ get_or printed index 0 → front ≡ take 1 digits → back ≡ drop 1 digits
    → front ++ text "." ++ back ≡ multiplier_text index
unfolding multiplier_text pointed_text
multiplier_is digits front back n index s e f b =
    let same : digits ≡ last_digits 15 (get_or printed index 0) = s.whole ∙ ap (last_digits 15) e in
    ap₂ (λ (t u : List ℕ). t ++ text "." ++ u) f b ∙ ap (λ (t : List ℕ). take 1 t ++ text "." ++ drop 1 t) same

-- ---- the lengths

many : (k n : ℕ) → length (last_digits k n) ≡ k
unfolding last_digits
many zero n = refl
many (suc k) n = length-append (last_digits k (n / 10)) ((48 + n % 10) ∷ []) ∙ omega (arith, many k (n / 10))

pub multiplier_length : (index : ℕ) → length (multiplier_text index) ≤ 17
unfolding multiplier_text pointed_text
multiplier_length index =
    let ds = last_digits 15 (get_or printed index 0) in
    simp length-append (omega (arith, many 15 (get_or printed index 0), length-take 1 ds, length-drop 1 ds))

in_column : (width n : ℕ) → length (aligned width (number_text n)) ≤ width + 20
in_column width n = omega (arith, column_length width (number_text n), few_digits 20 n)

pub row_length : (slot steps code : ℕ) (t : Three) → length (row_line slot steps code t) ≤ 256
unfolding row_line row_start indices_text multiplier_column
row_length slot steps code t =
    simp length-append
    (omega (
      arith,
      in_column 7 (subband_in slot),
      in_column 9 (channel_in slot),
      in_column 7 steps,
      in_column 7 code,
      in_column 6 t.first,
      in_column 4 t.second,
      in_column 4 t.third,
      multiplier_length t.first,
      multiplier_length t.second,
      multiplier_length t.third,
    ))
