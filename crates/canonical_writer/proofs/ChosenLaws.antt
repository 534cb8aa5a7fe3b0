-- The scfsi of the slots as they are filled in, slot by slot.
use mathlib.Core.Path.{◌≡◌}
use mathlib.Core.List.{List}
use Prim.Native.Nat.{ℕ, ◌+◌, ◌≤◌, ◌<◌}
use native.Mathlib.Omega.{arith}
use lib.ListN.{length, get_or, set, length-set}
use Rattle.tables.proofs.Listed.{filled, listed}
use Rattle.audio_data.specs.declared.Scfsi.{Scfsi}
use Rattle.side_info.specs.declared.SideInfo.{SideInfo}
use Rattle.side_info.specs.SideInfo.{idle_scfsi, scalefactors_in}
use Rattle.canonical_form.specs.Fewest.{fewest_scfsi, chosen}

module _ (s : SideInfo) where
  abbrev pub chosen_at : ℕ → Scfsi
  chosen_at slot = fewest_scfsi (scalefactors_in s slot)

  -- so many are filled in
  pub record ChosenTo (slots : List Scfsi) (n : ℕ) : Type 0 where
    pub long : length slots ≡ 64
    pub each : (k : ℕ) → k < n → get_or slots k idle_scfsi ≡ chosen_at k

  pub one_chosen : (slots : List Scfsi) (n : ℕ) (x : Scfsi) → n < 64 → x ≡ chosen_at n → ChosenTo slots n → ChosenTo (set slots n x) (n + 1)
  one_chosen slots n x h e c = record {
    long = simp length-set c.long;
    each = filled (λ k y. y ≡ chosen_at k) slots n x idle_scfsi (let l = c.long in omega arith) c.each e;
  }

  pub all_chosen : (slots : List Scfsi) (n : ℕ) → 64 ≤ n → ChosenTo slots n → slots ≡ chosen s
  unfolding chosen
  all_chosen slots n h c = listed 64 chosen_at idle_scfsi slots c.long (λ k l. c.each k (omega arith))
