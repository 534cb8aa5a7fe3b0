-- `encoder_scfsi::named` meets its contract: each return rewrites the definition with the name, or with what the name is not.
use mathlib.Core.Path.{◌≡◌}
use native.Mathlib.Omega.{arith}
use borrow.Author.Tests.{ne_eqb}
use Rattle.encoder_scfsi.specs.TableC4.{named}
use Rattle.encoder_scfsi.proofs.named.Goals as goal

pub returns-in-1 : goal.returns-in-1
unfolding named
returns-in-1 c = rw c.in-1.is

pub returns-in-2 : goal.returns-in-2
unfolding named
returns-in-2 c = rw c.in-2.is

pub returns-in-3 : goal.returns-in-3
unfolding named
returns-in-3 c = rw c.in-3.is

pub returns-in_default : goal.returns-in_default
unfolding named
returns-in_default c =
    let n = c.args.name in
    let one : n ≡ 1 → ⊥ = (λ e. omega arith) in
    let two : n ≡ 2 → ⊥ = (λ e. omega arith) in
    let three : n ≡ 3 → ⊥ = (λ e. omega arith) in
    simp (ne_eqb _ _ one, ne_eqb _ _ two, ne_eqb _ _ three, c.min-in_default.ensures, c.min.ensures)
