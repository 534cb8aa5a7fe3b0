-- A table of words, as the library searches it.
use Rattle.std.proofs.Common.{◌≡◌, ℕ, Bool, true, false, cond, List, [], ◌∷◌, Bor, refl, ap, ◌∙◌}
use Rattle.std.specs.Prelude.{Option, None, Some, option_map, find, bytes_eq}
use Rattle.plan_text.specs.Table.{looked_up}
use Rattle.plan_text.proofs.ByteLaws.{same_is}

module _ {X : Type 0} (w : List ℕ) where
  pub found : (table : List (Bor (List ℕ) × X)) → option_map (λ e. e.1) (find (λ e. bytes_eq w e.0.now) table) ≡ looked_up table w
  unfolding looked_up
  found [] = refl
  found (e ∷ es) = rw (same_is w e.0.now) (go (bytes_eq w e.0.now) (found es))
    where
      go : (b : Bool) → option_map (λ e. e.1) (find (λ e. bytes_eq w e.0.now) es) ≡ looked_up es w
          → option_map (λ e. e.1) (cond b (Some e) (find (λ e. bytes_eq w e.0.now) es)) ≡ cond b (Some e.1) (looked_up es w)
      go true h = refl
      go false h = h

  -- what the search tells, by what it found
  module _ (table : List (Bor (List ℕ) × X)) (o : Option (Bor (Bor (List ℕ) × X)))
      (searched : option_map (λ e. e.now) o ≡ find (λ e. bytes_eq w e.0.now) table) where
    pub at_entry : (e : Bor (Bor (List ℕ) × X)) → o ≡ Some e → Some e.now.1 ≡ looked_up table w
    at_entry e is = ap (option_map (λ e. e.1)) (rw is at searched) ∙ found table

    pub at_none : o ≡ None → None ≡ looked_up table w
    at_none is = ap (option_map (λ e. e.1)) (rw is at searched) ∙ found table
