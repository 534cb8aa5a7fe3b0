-- A row of ratios is filled as far as there are slots, and NaNs stand behind them.
use mathlib.Core.Bool.{Bool, true, false}
use mathlib.Core.Path.{◌≡◌, refl, sym, ◌∙◌}
use Prim.Native.Nat.{ℕ, ◌≤◌, ◌<◌}
use lib.Dec.{ltb}
use lib.Ieee.{Float, nan}
use Rattle.std.specs.Prelude.{List}
use lib.ListN.{length, get_or, get_or-eq_default}
use borrow.Author.Tests.{ltb-true, ltb-false}
use Rattle.tables.proofs.Listed.{listed}
use Rattle.layout.specs.Slots.{slot_of, smr_row}

module _ (by-slot : List Float) (ch n : ℕ) (ratios : List Float) where
  pub filled_row : length ratios ≡ 32
      → ((k : ℕ) → k < n → get_or ratios k nan ≡ get_or by-slot (slot_of ch k) nan)
      → ((k : ℕ) → n ≤ k → get_or ratios k nan ≡ nan)
      → ((k : ℕ) → n ≤ k → k < 32 → length by-slot ≤ slot_of ch k)
      → ratios ≡ smr_row by-slot ch
  unfolding smr_row
  filled_row long held rest short = listed 32 _ nan ratios long (λ k h. go k h (ltb k n) refl)
    where
      go : (k : ℕ) → k < 32 → (b : Bool) → ltb k n ≡ b → get_or ratios k nan ≡ get_or by-slot (slot_of ch k) nan
      go k h true e = held k (ltb-true k n e)
      go k h false e = rest k (ltb-false k n e) ∙ sym (get_or-eq_default by-slot nan (short k (ltb-false k n e) h))
