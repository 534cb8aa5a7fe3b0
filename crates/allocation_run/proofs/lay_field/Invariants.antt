use Rattle.std.proofs.Common.{◌≡◌, ◌+◌, ◌*◌}
use Rattle.allocation_run.specs.Entries.{entries_of}
use Rattle.allocation_run.specs.Laid.{LaidOut}
use Rattle.allocation_run.proofs.lay_field.Given as goal

abbrev pub invariant-loop-p : goal.invariant-loop-p
invariant-loop-p l = record {
  fields : l.tables.fields ≡ l.initial.tables.fields;
  tops : l.tables.tops ≡ l.initial.tables.tops;
  laid : LaidOut (entries_of l.fn.layout l.smr_db l.fn.costs) (16 * l.number + l.p) l.tables.mnrs l.tables.charges;
}
