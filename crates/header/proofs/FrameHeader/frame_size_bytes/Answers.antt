-- `header::FrameHeader::frame_size_bytes` meets its contract: each return rewrites the definition with the divisor that led to it.
-- The quotient is at most its dividend, so the size fits and has its bound.
use mathlib.Core.Path.{◌≡◌, refl, ap, ap₂, ◌∙◌}
use mathlib.Core.Bool.{Bool, true, false, cond}
use borrow.Author.Rules.{rules}
use borrow.Author.Tests.{eq-eqb, ne_eqb}
use Prim.Native.Nat.{ℕ, ◌+◌, ◌*◌, ◌/◌, ◌≤◌}
use mir.Val.{bool_byte}
use native.Mathlib.Nat.{div-le_self}
use native.Mathlib.Omega.{arith}
use lib.Dec.{lit≤}
use Rattle.header.specs.Header.{frame_size}
use Rattle.header.proofs.FrameHeader.frame_size_bytes.Goals as goal

pub returns-in_err-slots : goal.returns-in_err-slots
unfolding frame_size
returns-in_err-slots c =
    let none = c.in_err-slots.ensures in
    let rate = c.from-2.ensures in
    rw c.from_residual.ensures (record { whole = simp (eq-eqb c.args.self.sample_rate 0 (omega (arith, none, rate))); most = search rules })

-- padding adds one byte at most
one_more : (b : Bool) → bool_byte b ≤ 1
one_more true = lit≤ tt
one_more false = lit≤ tt

padded : (b : Bool) → bool_byte b ≡ cond b 1 0
padded true = refl
padded false = refl

pub overflow_add-result : goal.overflow_add-result
overflow_add-result c =
    omega (arith, c.in_ok-slots.ensures.1, div-le_self (144 * c.from.result) c.from-2.result, c.from.ensures, c.from-3.ensures, one_more c.args.self.padding)

pub returns : goal.returns
unfolding frame_size
returns c =
    let h = c.args.self in
    let divided = c.in_ok-slots.ensures in
    let rate = c.from-2.ensures in
    record {
      whole = rw (ne_eqb h.sample_rate 0 (λ z. omega (arith, z, divided.0, rate)))
          (ap (λ (n : ℕ). record { answer = 0; bytes = n })
          (ap₂ (λ (m n : ℕ). m + n) (divided.1 ∙ ap₂ (λ (m n : ℕ). 144 * m / n) c.from.ensures rate) (c.from-3.ensures ∙ padded h.padding)));
      most = omega (arith, c.in_ok-slots.ensures.1, div-le_self (144 * c.from.result) c.from-2.result, c.from.ensures, c.from-3.ensures, one_more h.padding);
    }
