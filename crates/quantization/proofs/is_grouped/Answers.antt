-- `quantization::is_grouped` meets its contract: antt computes the column at the keys, and no other class is grouped.
use mathlib.Core.Path.{◌≡◌, refl}
use mathlib.Core.Bool.{true}
use mathlib.Core.List.{[], ◌∷◌}
use borrow.Author.Rules.{rules}
use Rattle.tables.proofs.Keys.{at_key, no_key}
use Rattle.quantization.specs.Classes.{grouped}
use Rattle.quantization.proofs.ClassLaws.{not_grouped}
use Rattle.quantization.proofs.is_grouped.Goals as goal

pub returns-in-3 : goal.returns-in-3
unfolding grouped
returns-in-3 c = at_key (λ n. true ≡ grouped n) (3 ∷ 5 ∷ 9 ∷ []) _ (refl, (refl, (refl, tt))) c.in-3.is

pub returns-in_default : goal.returns-in_default
returns-in_default c = not_grouped _ (no_key (3 ∷ 5 ∷ 9 ∷ []) _ (search rules))
