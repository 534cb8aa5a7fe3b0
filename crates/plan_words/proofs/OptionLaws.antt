-- An `Option` that was made a `Result`, and one whose value was mapped.
use Rattle.std.proofs.Common.{◌≡◌, refl, ap}
use Rattle.std.specs.Prelude.{Option, None, Some, Ok, Err, ok_or, option_map, MatchOption, IsSomeAnd}

pub present : {T E : Type 0} (o : Option T) (e : E) (x : T) → Ok x ≡ ok_or o e → o ≡ Some x
present None e x q = cc
present (Some y) e x q = cc

pub missing : {T E : Type 0} (o : Option T) (e x : E) → Err x ≡ ok_or o e → (o ≡ None) × (x ≡ e)
missing None e x q = (refl, cc)
missing (Some y) e x q = (cc, cc)

pub mapped : {A B : Type 0} (f : A → B) (o : Option A) (r : Option B) → MatchOption o (r ≡ None) (λ x. IsSomeAnd r (λ y. y ≡ f x)) → r ≡ option_map f o
mapped f None r h = h
mapped f (Some x) None h = absurd h
mapped f (Some x) (Some y) h = ap Some h
