-- A section as its loop goes: what is left to take of it decides.
use mathlib.Core.Path.{◌≡◌, sym, ap, ◌∙◌}
use mathlib.Core.Bool.{Bool, true, false, cond}
use mathlib.Core.List.{List, [], ◌∷◌, map}
use Prim.Native.Nat.{ℕ, ◌+◌, ◌*◌, ◌≤◌, ◌<◌}
use native.Mathlib.Nat.{zero-add, lt_of_lt_of_le}
use lib.ListN.{length, get_or, drop, set}
use lib.Pow.{pow_mono}
use Rattle.bitalloc.specs.Tables.{nbal_of, row_of}
use Rattle.layout.specs.declared.Layout.{Layout}
use Rattle.layout.specs.declared.AllocationField.{AllocationField}
use Rattle.layout.specs.Slots.{slot_of}
use Rattle.side_info_reading.specs.Taken.{Taken, got, refused, and_then, number_taken, laid, each_taken}
use Rattle.audio_data.specs.declared.Scfsi.{Scfsi}
use Rattle.audio_data.specs.Scfsi.{of_code}
use Rattle.side_info_reading.specs.Reading.{field_taken, scfsi_taken, in_slots}
use Rattle.side_info_reading.proofs.TakenLaws.{then_got, then_refused, each_next, number_taken_lem}

-- ---- the slots of a field

module _ (x : AllocationField) where
  pub steps_both : x.both ≡ true → (n : ℕ) (cells : List ℕ) → set (set cells x.subband n) (32 + x.subband) n ≡ laid (in_slots x n) cells
  steps_both e n cells =
      ap (λ (k : ℕ). set (set cells k n) (32 + x.subband) n) (sym (zero-add x.subband))
      ∙ ap (λ (b : Bool). laid (map (λ ch. (slot_of ch x.subband, n)) (cond b (0 ∷ 1 ∷ []) (x.channel ∷ []))) cells) (sym e)

  pub steps_own : x.both ≡ false → (n : ℕ) (cells : List ℕ) → set cells (32 * x.channel + x.subband) n ≡ laid (in_slots x n) cells
  steps_own e n cells = ap (λ (b : Bool). laid (map (λ ch. (slot_of ch x.subband, n)) (cond b (0 ∷ 1 ∷ []) (x.channel ∷ []))) cells) (sym e)

-- ---- one entry after the other

module _ {X A C : Type 0} (one : X → List Bool → Taken A) (at : X → A → List (ℕ × C)) (xs : List X) (k : ℕ) (d x : X) (here : k < length xs)
    (e : x ≡ get_or xs k d) (cells : List C) (bits : List Bool) (whole : Taken (List C)) (so_far : each_taken one at (drop k xs) cells bits ≡ whole) where
  next : and_then (one x bits) (λ v. each_taken one at (drop (k + 1) xs) (laid (at x v) cells)) ≡ whole
  next =
      ap (λ (y : X). and_then (one y bits) (λ v. each_taken one at (drop (k + 1) xs) (laid (at y v) cells))) e
      ∙ sym (each_next one at xs k d cells bits here) ∙ so_far

  pub entry_got : (v : A) (rest : List Bool) → one x bits ≡ got v rest → each_taken one at (drop (k + 1) xs) (laid (at x v) cells) rest ≡ whole
  entry_got v rest q = sym (then_got (λ v. each_taken one at (drop (k + 1) xs) (laid (at x v) cells)) (one x bits) v rest q) ∙ next

  pub entry_refused : (n : ℕ) → one x bits ≡ refused n → refused n ≡ whole
  entry_refused n q = sym (then_refused (λ v. each_taken one at (drop (k + 1) xs) (laid (at x v) cells)) (one x bits) n q) ∙ next

-- ---- a field

module _ (l : Layout) (x : AllocationField) (bits : List Bool) where
  abbrev steps_next : ℕ → List Bool → Taken ℕ
  steps_next place = got (get_or (row_of l.table x.subband) place 0)

  pub field_got : (width place steps : ℕ) (rest : List Bool) → width ≡ nbal_of l.table x.subband → number_taken width bits ≡ got place rest
      → steps ≡ get_or (row_of l.table x.subband) place 0 → field_taken l x bits ≡ got steps rest
  field_got width place steps rest w e v =
      then_got steps_next (number_taken (nbal_of l.table x.subband) bits) place rest (ap (λ (k : ℕ). number_taken k bits) (sym w) ∙ e)
      ∙ ap (λ (n : ℕ). got n rest) (sym v)

  pub field_refused : (width n : ℕ) → width ≡ nbal_of l.table x.subband → number_taken width bits ≡ refused n → field_taken l x bits ≡ refused n
  field_refused width n w e = then_refused steps_next (number_taken (nbal_of l.table x.subband) bits) n (ap (λ (k : ℕ). number_taken k bits) (sym w) ∙ e)

-- a place of four bits
pub place_small : (width place : ℕ) (bits rest : List Bool) → width ≤ 4 → number_taken width bits ≡ got place rest → place < 16
place_small width place bits rest h e = lt_of_lt_of_le (number_taken_lem width bits place rest e).small (pow_mono {j = 4} h)

-- ---- a scfsi

abbrev as_slot : ℕ → List Bool → Taken Scfsi
as_slot code = got (of_code code)

pub scfsi_got : (slot : ℕ) (bits rest : List Bool) (code : ℕ) (s : Scfsi) → number_taken 2 bits ≡ got code rest → s ≡ of_code code
    → scfsi_taken slot bits ≡ got s rest
scfsi_got slot bits rest code s e v = then_got as_slot (number_taken 2 bits) code rest e ∙ ap (λ (t : Scfsi). got t rest) (sym v)

pub scfsi_refused : (slot : ℕ) (bits : List Bool) (n : ℕ) → number_taken 2 bits ≡ refused n → scfsi_taken slot bits ≡ refused n
scfsi_refused slot bits n e = then_refused as_slot (number_taken 2 bits) n e

-- two bits
pub code_small : (code : ℕ) (bits rest : List Bool) → number_taken 2 bits ≡ got code rest → code < 4
code_small code bits rest e = (number_taken_lem 2 bits code rest e).small
