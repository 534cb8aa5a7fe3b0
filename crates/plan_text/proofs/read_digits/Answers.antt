-- `plan_text::read_digits` meets its contract. The loop keeps the answer: the digits passed are a number, and those to come go on from it.
use Rattle.std.proofs.Common.{sym, ◌∙◌, arith, rules}
use Rattle.plan_text.proofs.DigitLaws.{from_start, from_over, next_digit, next_other, at_end}
use Rattle.plan_text.proofs.read_digits.Goals as goal
use Rattle.plan_text.proofs.read_digits.Invariants.{most}

pub loop-byte-init : goal.loop-byte-init
loop-byte-init c = (search rules, from_start most _)

pub returns-then-not-is_ascii_digit : goal.returns-then-not-is_ascii_digit
returns-then-not-is_ascii_digit c =
    sym
    (c.loop-byte.invariant.1
    ∙ next_other most _ _ c.loop-byte.byte-index c.loop-byte-test.true (sym c.is_ascii_digit.ensures.value ∙ c.if-not-is_ascii_digit.true))

pub returns-then-number-gt-MOST : goal.returns-then-number-gt-MOST
returns-then-number-gt-MOST c =
    sym
    (c.loop-byte.invariant.1
    ∙ next_digit most _ _ c.loop-byte.byte-index c.loop-byte-test.true (sym c.is_ascii_digit.ensures.value ∙ c.if-not-is_ascii_digit.false)
    ∙ from_over most _ _ (omega (arith, c.from.ensures, c.if-number-gt-MOST.true)))

pub loop-byte-preserved : goal.loop-byte-preserved
loop-byte-preserved c = (
  search rules,
  rw c.from.ensures
      (c.loop-byte.invariant.1
      ∙ next_digit most _ _ c.loop-byte.byte-index c.loop-byte-test.true (sym c.is_ascii_digit.ensures.value ∙ c.if-not-is_ascii_digit.false)),
)

pub returns : goal.returns
returns c = sym (c.loop-byte.invariant.1 ∙ at_end most _ _ c.loop-byte.byte-index c.loop-byte-test.false c.loop-byte.invariant.0)
