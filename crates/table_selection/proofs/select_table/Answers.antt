-- `table_selection::select_table` meets its contract: each of the ways to a table is the definition's.
use Rattle.std.specs.Prelude.{None}
use mathlib.Core.Path.{sym, ◌∙◌}
use Rattle.table_selection.proofs.SelectLaws.{of_lsf, of_free, of_rate, no_kbps}
use Rattle.table_selection.proofs.select_table.Goals as goal

pub returns-then-header : goal.returns-then-header
returns-then-header c = of_lsf _ c.if-header.true

pub returns-then-is_free_format : goal.returns-then-is_free_format
returns-then-is_free_format c =
    c.free_format_table.ensures
    ∙ sym (of_free _ c.if-header.false (sym c.is_free_format.ensures ∙ c.if-is_free_format.true))

pub returns-in_err-kbps : goal.returns-in_err-kbps
returns-in_err-kbps c =
    let rated = of_rate _ c.if-header.false (sym c.is_free_format.ensures ∙ c.if-is_free_format.false) None (sym c.in_err-kbps.ensures) in
    rw c.from_residual.ensures (sym (rated ∙ no_kbps _))

pub returns : goal.returns
returns c =
    c.table_for.ensures
    ∙ sym (of_rate _ c.if-header.false (sym c.is_free_format.ensures ∙ c.if-is_free_format.false) _ (sym c.in_ok-kbps.ensures))
