-- `worked_cases::count` meets its contract: antt computes the answers of the table, but for the one whose ratios decide nothing by a law.
use mathlib.Core.Path.{◌≡◌, refl, ap₂}
use mathlib.Core.List.{List, ◌∷◌, ◌++◌, flat_map}
use Prim.Native.Nat.{ℕ, ◌<◌}
use lib.Dec.{ltb, ltb→lt}
use lib.Ieee.{Float, le, sub}
use lib.ListN.{take, drop}
use Rattle.tables.proofs.Rule.{below}
use Rattle.header.specs.Header.{frame_size}
use Rattle.bitalloc.specs.declared.BitAllocTable.TheVariants.{B2c}
use Rattle.tables.specs.Scalefactors.{scalefactors}
use Rattle.tables.specs.Search.{one_of}
use Rattle.ladder.specs.Ladder.{on_ladder, ladder, lsf_ladder}
use Rattle.bitalloc.specs.Tables.{nbal_of, row_of, index_of}
use Rattle.quantization.specs.Classes.{sample_bits}
use Rattle.table_selection.specs.Select.{table_of}
use Rattle.layout.specs.declared.Layout.{Layout}
use Rattle.layout.specs.Layout.{layout_of, fields_of, slots_of}
use Rattle.audio_data.specs.Record.{filler}
use Rattle.encoder_scalefactors.specs.Indices.{pick_of}
use Rattle.encoder_scfsi.specs.Select.{selection}
use Rattle.encoder_bit_demand.specs.Snr.{snr_of}
use Rattle.encoder_bit_budget.specs.Budget.{header_asked, budget_of}
use Rattle.allocation_rounds.specs.Rounds.{Rules, price, ended}
use Rattle.allocation_rounds.proofs.OnTheWay.{end_untouched}
use Rattle.allocation_run.specs.Entries.{rules_of, entries_of}
use Rattle.allocation_run.specs.Steps.{steps_of}
use Rattle.encoder_bit_allocator.specs.Allocation.{worst_case, allocation_of}
use Rattle.bit_string.specs.Bits.{bits_of, value_of, unpacked}
use Rattle.side_info.specs.SideInfo.{active_slots, record_asked}
use Rattle.side_info_writer.specs.Written.{written_of}
use Rattle.side_info_reading.specs.Read.{read_of}
use Rattle.record_check.specs.Check.{check_of}
use Rattle.canonical_form.specs.Fewest.{chosen}
use Rattle.canonical_form.specs.Canonical.{canonical_of}
use Rattle.worked_cases.specs.Cases.{cases, any, allocation, allocated, mono, idle, answer_to, Hold}
use Rattle.worked_cases.proofs.count.Goals as goal

-- where its fields are
abbrev laid : Layout
laid = layout_of mono B2c

-- what the rounds go by
abbrev rules : List (List Float) → Rules
rules smr = rules_of (entries_of laid smr (worst_case laid))

-- every first step has a price, whatever the ratios
dear : (smr : List (List Float)) (f : ℕ) → f < (rules smr).fields → 0 < price (rules smr) f 0
unfolding rules_of entries_of worst_case layout_of fields_of row_of sample_bits
dear smr f h = ltb→lt 0 _ (below 8 (λ f. ltb 0 (price (rules smr) f 0)) tt f h)

-- so that nothing is bought
filled : (smr : List (List Float)) → answer_to smr (allocation mono any 694) ≡ allocated 0 (idle 64) 0 0 0 0
unfolding answer_to one_of on_ladder ladder lsf_ladder table_of nbal_of row_of layout_of fields_of budget_of allocation_of
filled smr =
    let n = end_untouched (rules smr) 0 (dear smr) in
    ap₂ (λ (places : List ℕ) (left : ℕ). allocated 0 (steps_of laid places) left 0 0 0) n.0 n.1

-- the cases before and behind it: antt computes the answers
first-case : Hold (take 1 cases)
unfolding cases Hold answer_to one_of on_ladder ladder lsf_ladder table_of nbal_of layout_of fields_of budget_of
first-case smr = refl

other-cases : Hold (drop 2 cases)
unfolding cases Hold answer_to written_of read_of check_of canonical_of chosen unpacked value_of flat_map bits_of slots_of active_slots index_of record_asked header_asked ended one_of on_ladder ladder lsf_ladder table_of nbal_of row_of sample_bits snr_of layout_of fields_of budget_of frame_size filler allocation_of selection scalefactors pick_of le sub
other-cases smr = refl

holds : Hold cases
unfolding cases Hold
holds smr = ap₂ ◌++◌ (first-case smr) (ap₂ ◌∷◌ (filled smr) (other-cases smr))

-- ---- the table

pub returns : goal.returns
unfolding cases
returns c = record { whole = refl; hold = holds }
