-- `audio_data::Scfsi::of_code` meets its contract: a code that is not 0, 1 or 2 has the last scfsi.
use Prim.Native.Nat.{ℕ, zero, suc}
use mathlib.Core.Path.{◌≡◌, refl}
use borrow.Author.Rules.{rules}
use Rattle.audio_data.specs.declared.Scfsi.TheVariants.{Share0Then12}
use Rattle.audio_data.specs.Scfsi.{of_code}
use Rattle.audio_data.proofs.Scfsi.of_code.Goals as goal

last : (n : ℕ) → (n ≡ 0 → ⊥) → (n ≡ 1 → ⊥) → (n ≡ 2 → ⊥) → Share0Then12 ≡ of_code n
last zero a b c = absurd (a refl)
last (suc zero) a b c = absurd (b refl)
last (suc (suc zero)) a b c = absurd (c refl)
last (suc (suc (suc n))) a b c = refl

pub returns-in_default : goal.returns-in_default
returns-in_default c = last c.args.code (search rules) (search rules) (search rules)
