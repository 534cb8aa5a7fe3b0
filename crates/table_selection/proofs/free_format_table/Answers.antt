-- `table_selection::free_format_table` meets its contract: antt computes the headings' table at the three frequencies, and there is none elsewhere.
use mathlib.Core.Logic.{⊎_elim}
use borrow.Author.Rules.{rules}
use Rattle.table_selection.specs.Select.{table_at}
use Rattle.table_selection.proofs.SelectLaws.{off_three}
use Rattle.table_selection.proofs.free_format_table.Goals as goal

pub returns-in-48000 : goal.returns-in-48000
unfolding table_at
returns-in-48000 c = rw c.in-48000.is

pub returns-in-44100 : goal.returns-in-44100
unfolding table_at
returns-in-44100 c = ⊎_elim (λ e. rw e) (λ e. rw e) c.in-44100.is

pub returns-in_default : goal.returns-in_default
returns-in_default c = off_three _ _ (search rules) (search rules) (search rules)
