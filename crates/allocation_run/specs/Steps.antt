-- Where the rounds end over the fields of a layout, and the steps that the slots then have.
use Rattle.std.specs.Prelude.{ℕ, List, Float, get_or, Option, None, Some}
use Rattle.tables.specs.Listed.{tabulate}
use Rattle.bitalloc.specs.declared.BitAllocTable.{BitAllocTable}
use Rattle.bitalloc.specs.Tables.{row_of}
use Rattle.layout.specs.declared.Layout.{Layout}
use Rattle.layout.specs.Slots.{channel_in, subband_in}
use Rattle.layout.specs.Layout.{served_by}
use Rattle.allocation_rounds.specs.declared.Run.{Run}
use Rattle.allocation_rounds.specs.Rounds.{started, ended, place_in}
use Rattle.allocation_run.specs.Entries.{rules_of, entries_of}

-- where the rounds end, with these ratios, first steps' costs and bits offered
unfoldable pub run_of : Layout → List (List Float) → List ℕ → ℕ → Run
unfolding rules_of entries_of
run_of l smr costs offered = ended (rules_of (entries_of l smr costs)) (started offered)

-- the steps of a slot: those at the place of the field that serves it, and 0 where none does
abbrev pub steps_by : BitAllocTable → List ℕ → ℕ → Option ℕ → ℕ
steps_by t places sb None = 0
steps_by t places sb (Some f) = get_or (row_of t sb) (place_in places f) 0

abbrev pub steps_held : Layout → List ℕ → ℕ → ℕ → ℕ
steps_held l places ch sb = steps_by l.table places sb (served_by l ch sb)

-- the steps of all slots
unfoldable pub steps_of : Layout → List ℕ → List ℕ
steps_of l places = tabulate 64 (λ s. steps_held l places (channel_in s) (subband_in s))
