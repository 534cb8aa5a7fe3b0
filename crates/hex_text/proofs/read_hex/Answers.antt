-- `hex_text::read_hex` meets its contract.
use Rattle.std.proofs.Common.{sym, ◌∙◌, subst, arith, eq-eqb, ne_eqb}
use Rattle.hex_text.specs.Hex.{HexIs}
use Rattle.hex_text.proofs.WalkLaws.{at_first, counted, first_feed, at_line, at_hash, at_last_hash, at_blank, at_digit, at_wrong, at_end}
use Rattle.hex_text.proofs.read_hex.Goals as goal
use Rattle.hex_text.proofs.read_hex.Goals.{then-not-is_blank+in-Some-worth, else-not-is_blank}

pub loop-at-init : goal.loop-at-init
loop-at-init c = at_first _ _

pub loop-at-preserved-then-byte-eq10 : goal.loop-at-preserved-then-byte-eq10
loop-at-preserved-then-byte-eq10 c = at_line _ _ _ _ _ _ _ c.loop-at.invariant c.loop-at-test.true (eq-eqb _ 10 c.if-byte-eq10.true)

pub loop-at-preserved-then-byte-eq-HASH : goal.loop-at-preserved-then-byte-eq-HASH
loop-at-preserved-then-byte-eq-HASH c =
    at_hash _ _ _ _ _ _ _ c.loop-at.invariant c.loop-at-test.true (ne_eqb _ 10 c.if-byte-eq10.false) (eq-eqb _ 35 c.if-byte-eq-HASH.true) _ (first_feed c.args.text.now c.loop-at.at _ c.line_feed.ensures ∙ c.in-Some.is)

pub returns-in_default : goal.returns-in_default
returns-in_default c =
    let ended = at_last_hash _ _ _ _ _ _ _ c.loop-at.invariant c.loop-at-test.true (ne_eqb _ 10 c.if-byte-eq10.false) (eq-eqb _ 35 c.if-byte-eq-HASH.true)
    (first_feed c.args.text.now c.loop-at.at _ c.line_feed.ensures ∙ c.in_default.is) in
    subst (HexIs _ _) (sym c.finished.ensures) (at_end _ _ _ _ _ _ _ ended (omega arith))

pub returns-in_default-worth : goal.returns-in_default-worth
returns-in_default-worth c =
    at_wrong _ _ _ _ _ _ _ c.loop-at.invariant c.loop-at-test.true (ne_eqb _ 10 c.if-byte-eq10.false) (ne_eqb _ 35 c.if-byte-eq-HASH.false)
    (sym c.is_blank.ensures ∙ c.if-not-is_blank.true) (sym c.worth.ensures.whole ∙ c.in_default-worth.is)

pub put-digits-requires-clause-count : goal.put-digits-requires-clause-count
put-digits-requires-clause-count c = omega (arith, counted _ _ _ _ _ _ _ c.loop-at.invariant, c.loop-at-test.true)

pub loop-at-preserved : goal.loop-at-preserved
loop-at-preserved c =
    elim c.if-not-is_blank.branch [
      | then-not-is_blank+in-Some-worth w ↦
          rw (w.bytes-is, w.digits-is)
          (at_digit _ _ _ _ _ _ _ c.loop-at.invariant c.loop-at-test.true (ne_eqb _ 10 c.if-byte-eq10.false) (ne_eqb _ 35 c.if-byte-eq-HASH.false) _ _ _
          (sym c.is_blank.ensures ∙ w.if-not-is_blank.true) (sym w.worth.ensures.whole ∙ w.in-Some-worth.is) w.put-digits.ensures)
      | else-not-is_blank w ↦
          rw (w.bytes-is, w.digits-is)
          (at_blank _ _ _ _ _ _ _ c.loop-at.invariant c.loop-at-test.true (ne_eqb _ 10 c.if-byte-eq10.false) (ne_eqb _ 35 c.if-byte-eq-HASH.false)
          (sym c.is_blank.ensures ∙ w.if-not-is_blank.false))
    ]

pub returns : goal.returns
returns c = subst (HexIs _ _) (sym c.finished-2.ensures) (at_end _ _ _ _ _ _ _ c.loop-at.invariant c.loop-at-test.false)
