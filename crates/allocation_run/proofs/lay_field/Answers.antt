-- `allocation_run::lay_field` meets its contract. The loop's invariant: the places so far are laid.
use Rattle.std.proofs.Common.{◌<◌, ◌≤◌, ℕ, ◌∙◌, subst, arith}
use borrow.Author.Rules.{rules}
use Rattle.allocation_run.proofs.LaidLaws.{Begun, go_on, end, topped}
use Rattle.allocation_run.proofs.lay_field.Goals as goal
use Rattle.allocation_run.proofs.lay_field.Goals.{Start, After-saturating_sub}

-- what is known of the field
begun : (c : After-saturating_sub) → Begun c.args.layout c.args.costs.now c.args.number c.field-field.result c.from-first_step.result c.row-row.result
begun c = record { there = c.requires.0; is = c.field-field.ensures; cost = c.from-first_step.ensures; read = c.row-row.ensures }

pub loop-p-preserved : goal.loop-p-preserved
loop-p-preserved c =
    let l = c.loop-p in
    let h : l.p < 16 = (let n = c.places-places.ensures.most in omega arith) in
    record {
      fields = l.invariant.fields;
      tops = l.invariant.tops;
      laid =
          go_on c.args.layout _ _ _ _ _ _ (begun (goal.at.loop-p-preserved c).After-saturating_sub) l.tables.mnrs l.tables.charges l.p _ _ l.invariant.laid h
          c.field_mnr.ensures c.charge.ensures.whole;
    }

pub returns : goal.returns
returns c =
    let l = c.loop-p in
    let s = (goal.at.returns c).After-saturating_sub in
    let q : c.places-places.result ≤ l.p = omega arith in
    record {
      fields = l.invariant.fields ∙ c.requires.2.fields;
      tops = topped c.args.layout _ _ _ _ l.invariant.tops c.requires.2.tops (search rules) c.field-field.ensures.whole _ c.places-places.ensures.whole c.saturating_sub.ensures;
      laid = end c.args.layout _ _ _ _ _ _ (begun s) l.tables.mnrs l.tables.charges l.p l.invariant.laid (subst (λ (n : ℕ). n ≤ l.p) c.places-places.ensures.whole q);
    }
