-- What each function replies to arguments that mean something, over the definitions that the function which it wraps is proved equal to.
-- Beside a number that is not 0 the definitions have the refused record's values.
use Rattle.std.specs.Prelude.{ℕ, ◌*◌, ◌/◌, ◌%◌, false, List, [], ◌∷◌, ℤ, pos, Float, get_or, take, drop, Option, None, Some, is_some}
use Rattle.std.specs.Float.{fin}
use Rattle.header.specs.declared.FrameHeader.{FrameHeader}
use Rattle.header.specs.Questions.{Question, number}
use Rattle.header.specs.Header.{frame_size}
use Rattle.bitalloc.specs.declared.BitAllocTable.{BitAllocTable}
use Rattle.quantization.specs.declared.QuantClass.{QuantClass}
use Rattle.table_selection.specs.Select.{table_of}
use Rattle.bitalloc.specs.Tables.{table_number, sblimit_of, nbal_of, steps_at, index_of}
use Rattle.quantization.specs.Classes.{class_of, bits_per_sample}
use Rattle.tables.specs.Listed.{tabulate}
use Rattle.audio_data.specs.Scfsi.{code_of}
use Rattle.encoder_scalefactors.specs.Indices.{index_from, indices_of}
use Rattle.encoder_scfsi.specs.declared.ScfsiSelection.{ScfsiSelection}
use Rattle.encoder_scfsi.specs.Class.{class_number}
use Rattle.encoder_scfsi.specs.Select.{selection, bit}
use Rattle.encoder_samples.specs.declared.Triplet.{Triplet}
use Rattle.encoder_samples.specs.Entries.{class_asked, sample_code, triplet_answer}
use Rattle.layout.specs.Slots.{smr_rows}
use Rattle.encoder_bit_budget.specs.declared.FixedBitBudget.{FixedBitBudget}
use Rattle.encoder_bit_budget.specs.Budget.{plain, table_asked, budget_of, available_of}
use Rattle.encoder_bit_demand.specs.Demand.{demand_of}
use Rattle.encoder_bit_demand.specs.Snr.{snr_of}
use Rattle.encoder_bit_allocator.specs.Allocation.{AllocationAnswer, allocation_of}
use Rattle.c_answers.specs.Answers.{Reply, reply, or_nothing}

-- ---- of a header

-- the number of a table, and 0 where there is none
abbrev pub table_or : Option BitAllocTable → ℕ
table_or None = 0
table_or (Some t) = table_number t

abbrev pub table_selected : FrameHeader → Reply ℕ
table_selected h = reply (number (table_asked h ∷ [])) (table_or (table_of h) ∷ [])

abbrev pub frame_sized : FrameHeader → Reply ℕ
frame_sized h = reply (frame_size h).answer ((frame_size h).bytes ∷ [])

-- a budget as C has it
abbrev pub budget_values : FixedBitBudget → List ℕ
budget_values b =
    b.cb ∷ b.bhdr ∷ b.bcrc ∷ b.bbal ∷ b.sblimit ∷ b.bound ∷ b.channels ∷ table_number b.table ∷ []

abbrev pub budget_fixed : FrameHeader → Reply ℕ
budget_fixed h =
    let a = budget_of (plain h 0) in
    reply a.answer (budget_values a.budget)

abbrev pub bits_available : ℕ → FrameHeader → Reply ℤ
bits_available banc h =
    let a = available_of (plain h banc) in
    reply a.answer (a.bits ∷ [])

-- ratios by slot
abbrev pub bits_demanded : List Float → FrameHeader → Reply ℕ
bits_demanded smr h =
    let a = demand_of h (smr_rows smr) in
    reply a.answer (a.bits ∷ [])

-- the allocation's two slices: the steps by slot; and the bits left, with cb, fixed and banc
abbrev pub steps_allocated : List Float → ℕ → FrameHeader → Reply ℕ
steps_allocated smr banc h =
    let a = allocation_of (plain h banc) (smr_rows smr) in
    reply a.number a.audio.nb_steps

abbrev pub allocation_values : AllocationAnswer → List ℕ
allocation_values a = a.left ∷ a.cb ∷ a.fixed ∷ a.banc ∷ []

abbrev pub bits_allocated : List Float → ℕ → FrameHeader → Reply ℕ
bits_allocated smr banc h =
    let a = allocation_of (plain h banc) (smr_rows smr) in
    reply a.number (allocation_values a)

-- ---- of a table

abbrev pub limits_of : BitAllocTable → ℕ → List ℕ
limits_of t sb = sblimit_of t ∷ nbal_of t sb ∷ []

abbrev pub limits_at : ℕ → BitAllocTable → Reply ℕ
limits_at sb t = reply 0 (limits_of t sb)

abbrev pub steps_found : ℕ → ℕ → BitAllocTable → Reply ℕ
steps_found sb index t = or_nothing (steps_at t sb index)

abbrev pub index_found : ℕ → ℕ → BitAllocTable → Reply ℕ
index_found sb steps t = or_nothing (index_of t sb steps)

-- ---- of a number of steps

-- the class, and zeros where there is none
abbrev pub class_or : Option QuantClass → QuantClass
class_or None = record {
  nb_steps = 0;
  c = fin false 0 (pos 0);
  d = fin false 0 (pos 0);
  grouping = false;
  samples_per_codeword = 0;
  bits_per_codeword = 0;
}
class_or (Some q) = q

abbrev pub coefficients : ℕ → Reply Float
coefficients steps =
    reply (number (class_asked steps ∷ [])) ((class_or (class_of steps)).c ∷ (class_or (class_of steps)).d ∷ [])

-- grouping, samples and bits per codeword, bits per sample
abbrev pub figures_of : QuantClass → List ℕ
figures_of q =
    bit q.grouping ∷ q.samples_per_codeword ∷ q.bits_per_codeword ∷ bits_per_sample q.nb_steps ∷ []

abbrev pub class_figures : ℕ → Reply ℕ
class_figures steps = reply (number (class_asked steps ∷ [])) (figures_of (class_or (class_of steps)))

-- question 5: Table C.5 has the number of steps
abbrev pub snr_asked : ℕ → Question ℕ
snr_asked steps = record { yes = is_some (snr_of steps); otherwise = 5 }

-- the signal-to-noise ratio in dB, and 0 where there is none
abbrev pub snr_or : Option Float → Float
snr_or None = fin false 0 (pos 0)
snr_or (Some x) = x

abbrev pub snr_found : ℕ → Reply Float
snr_found steps = reply (number (snr_asked steps ∷ [])) (snr_or (snr_of steps) ∷ [])

-- ---- of samples

abbrev pub sample_coded : Float → ℕ → Reply ℕ
sample_coded sample steps = reply (sample_code steps sample).answer ((sample_code steps sample).code ∷ [])

-- count, width and the three codewords
abbrev pub triplet_values : Triplet → List ℕ
triplet_values t =
    t.count ∷ t.width ∷ get_or t.codewords 0 0 ∷ get_or t.codewords 1 0 ∷ get_or t.codewords 2 0 ∷ []

abbrev pub triplet_coded : List Float → ℕ → Reply ℕ
triplet_coded samples steps =
    reply (triplet_answer steps samples).number (triplet_values (triplet_answer steps samples).triplet)

-- ---- of scalefactors

-- the index of twelve samples
abbrev pub granule_indexed : List Float → Reply ℕ
granule_indexed samples = reply 0 (index_from (take 12 samples) 0 ∷ [])

-- 36 samples of each of 32 subbands, one subband behind the other
unfoldable pub subband_rows : List Float → List (List Float)
subband_rows samples = tabulate 32 (λ sb. take 36 (drop (36 * sb) samples))

-- the indices of a frame, at 32 * granule + subband
unfoldable pub by_granule : List (List ℕ) → List ℕ
by_granule indices = tabulate 96 (λ i. get_or (get_or indices (i / 32) []) (i % 32) 0)

abbrev pub frame_indexed : ℕ → List Float → Reply ℕ
frame_indexed limit samples = reply 0 (by_granule (indices_of (subband_rows samples) limit))

-- the three used, three write flags, scfsi, and both classes
abbrev pub selection_values : ScfsiSelection → List ℕ
selection_values s =
    get_or s.used 0 0 ∷ get_or s.used 1 0 ∷ get_or s.used 2 0
    ∷ bit s.pattern.write0 ∷ bit s.pattern.write1 ∷ bit s.pattern.write2
    ∷ code_of s.scfsi ∷ class_number s.class1 ∷ class_number s.class2 ∷ []

abbrev pub scfsi_selected : List ℕ → Reply ℕ
scfsi_selected given = reply 0 (selection_values (selection (get_or given 0 0) (get_or given 1 0) (get_or given 2 0)))
