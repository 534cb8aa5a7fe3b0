-- `record_checker::check_slot` meets its contract: the field that serves the slot decides.
use mathlib.Core.Path.{refl, sym, ◌∙◌}
use mathlib.Core.Bool.{true, false}
use Rattle.record_checker.proofs.RefusalLaws.{none_empty, none_active, by_field}
use Rattle.record_checker.proofs.check_slot.Goals as goal

pub returns-then-empty : goal.returns-then-empty
returns-then-empty c = none_empty _ _ _ _ c.requires.channel c.requires.subband (sym c.in_default.is ∙ c.field_serving.ensures.whole) c.if-empty.true

pub returns-else-empty : goal.returns-else-empty
returns-else-empty c = none_active _ _ _ _ c.requires.channel c.requires.subband (sym c.in_default.is ∙ c.field_serving.ensures.whole) c.if-empty.false

pub returns-then-steps_differ : goal.returns-then-steps_differ
returns-then-steps_differ c =
    by_field _ _ _ _ c.requires.channel c.requires.subband _ _ (sym c.in-Some.is ∙ c.field_serving.ensures.whole) c.field-field.ensures.whole _ true _
    refl c.if-steps_differ.true refl

pub returns-then-not-indices_agree : goal.returns-then-not-indices_agree
returns-then-not-indices_agree c =
    by_field _ _ _ _ c.requires.channel c.requires.subband _ _ (sym c.in-Some.is ∙ c.field_serving.ensures.whole) c.field-field.ensures.whole _ false false
    c.agreeing.ensures c.if-steps_differ.false c.if-not-indices_agree.true

pub returns : goal.returns
returns c =
    by_field _ _ _ _ c.requires.channel c.requires.subband _ _ (sym c.in-Some.is ∙ c.field_serving.ensures.whole) c.field-field.ensures.whole _ false true
    c.agreeing.ensures c.if-steps_differ.false c.if-not-indices_agree.false
