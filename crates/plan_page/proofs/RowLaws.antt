-- Laws of the heading and of a row.
use mathlib.Core.Path.{◌≡◌, sym, ap, ap₂, ◌∙◌}
use mathlib.Core.List.{List, ◌++◌}
use Prim.Native.Nat.{ℕ, ◌+◌, ◌≤◌}
use native.Mathlib.Numerals.{add-one}
use native.Mathlib.Omega.{arith}
use lib.Dec.{lit≤}
use lib.Ieee.{Float}
use lib.ListN.{length}
use borrow.Author.Tests.{eq-eqb, ne_eqb}
use Rattle.layout.specs.declared.Layout.{Layout}
use Rattle.layout.specs.declared.AllocationField.{AllocationField}
use Rattle.layout.specs.Layout.{channel_count, field_steps}
use Rattle.encoder_bit_demand.specs.Demand.{FirstStepIs}
use Rattle.allocation_run.specs.Entries.{charge, ChargeIs}
use Rattle.text_line.specs.Line.{cut, aligned}
use Rattle.text_line.specs.Number.{number_text}
use Rattle.text_line.proofs.LineLaws.{cut_whole, behind, more}
use Rattle.plan_page.specs.Rows.{joined, row_start, channel_columns, subband_bits, subband_line}
use Rattle.plan_page.specs.Charged.{BitsInAre}

-- ---- the columns of one channel after the other

pub one_more : {l r : List ℕ} (t : List ℕ) (f : ℕ → List ℕ) (ch : ℕ) → l ≡ cut (t ++ joined f ch) → r ≡ cut (l ++ f ch) → r ≡ cut (t ++ joined f (ch + 1))
one_more t f ch e g = more t (joined f ch) (f ch) e g ∙ ap (λ (n : ℕ). cut (t ++ joined f n)) (sym (add-one ch))

-- a line that holds its text whole
pub held : {l r : List ℕ} (a b s : List ℕ) → l ≡ cut a → r ≡ cut (l ++ b) → a ++ b ≡ s → length s ≤ 256 → r ≡ s
held a b s e g q h = behind a b e g ∙ ap cut q ∙ cut_whole s h

-- ---- a row

pub row_is : (l : Layout) (steps : List ℕ) (smr : List (List Float)) (sb channels bits : ℕ) → channels ≡ channel_count l → bits ≡ subband_bits l steps sb
    → row_start sb ++ joined (channel_columns steps smr sb) channels ++ aligned 6 (number_text bits) ≡ subband_line l steps smr sb
unfolding subband_line
row_is l steps smr sb channels bits c b =
    ap₂ (λ (n m : ℕ). row_start sb ++ joined (channel_columns steps smr sb) n ++ aligned 6 (number_text m)) c b

-- ---- the bits of a subband

module _ (steps : List ℕ) (sb : ℕ) (x : AllocationField) where
  pub bits_here : (nb first r : ℕ) → x.subband ≡ sb → nb ≡ field_steps steps x → FirstStepIs x first → ChargeIs nb first r → BitsInAre steps sb x r
  bits_here nb first r e n f c = record {
    whole = rw (eq-eqb x.subband sb e) (c.whole ∙ ap₂ charge n f.whole);
    most = let a = c.most in let b = f.most in omega arith;
  }

  pub bits_elsewhere : (x.subband ≡ sb → ⊥) → BitsInAre steps sb x 0
  bits_elsewhere e = record { whole = rw (ne_eqb x.subband sb e); most = lit≤ tt }
