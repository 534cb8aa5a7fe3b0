-- A slot is active exactly where it is one of the layout's and has steps.
use mathlib.Core.Path.{◌≡◌, refl, sym, ap, ap₂, ◌∙◌}
use mathlib.Core.Bool.{Bool, true, false, not, cond, ◌&&◌, ◌||◌, and-false}
use mathlib.Core.List.{List, [], ◌∷◌}
use Prim.Native.Nat.{ℕ}
use lib.Dec.{eqb}
use lib.ListN.{get_or}
use borrow.Author.Tests.{eqb-true}
use Rattle.tables.specs.Search.{one_of}
use Rattle.layout.specs.declared.Layout.{Layout}
use Rattle.layout.specs.Layout.{slots_of}
use Rattle.side_info.specs.SideInfo.{active_among, active_slots}

module _ (steps : List ℕ) (k : ℕ) where
  abbrev stepped : ℕ → Bool
  stepped slot = not (eqb (get_or steps slot 0) 0)

  pub active_has : (slots : List ℕ) → one_of (active_among steps slots) k ≡ (one_of slots k && stepped k)
  unfolding one_of
  active_has [] = refl
  active_has (s ∷ slots) = go (eqb (get_or steps s 0) 0) refl (eqb k s) refl (active_has slots)
    where
      go : (idle : Bool) → eqb (get_or steps s 0) 0 ≡ idle → (here : Bool) → eqb k s ≡ here → one_of (active_among steps slots) k ≡ (one_of slots k && stepped k)
          → one_of (cond idle (active_among steps slots) (s ∷ active_among steps slots)) k ≡ ((here || one_of slots k) && stepped k)
      go true p true q ih =
          let none : stepped k ≡ false = ap stepped (eqb-true k s q) ∙ ap not p in
          ih ∙ ap (λ (b : Bool). one_of slots k && b) none ∙ and-false (one_of slots k) ∙ sym none
      go true p false q ih = ih
      go false p true q ih = ap (λ (b : Bool). b || one_of (active_among steps slots) k) q ∙ sym (ap stepped (eqb-true k s q) ∙ ap not p)
      go false p false q ih = ap₂ ◌||◌ q ih

pub active_is : (l : Layout) (steps : List ℕ) (slot : ℕ) → one_of (active_slots l steps) slot ≡ (one_of (slots_of l) slot && not (eqb (get_or steps slot 0) 0))
unfolding active_slots
active_is l steps slot = active_has steps slot (slots_of l)
