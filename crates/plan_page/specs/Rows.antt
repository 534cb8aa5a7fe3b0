-- The rows of the page, one for each subband that is carried.
use Rattle.std.specs.Prelude.{ℕ, zero, suc, cond, List, [], ◌++◌, eqb, Float, get_or}
use Rattle.layout.specs.declared.Layout.{Layout}
use Rattle.layout.specs.declared.AllocationField.{AllocationField}
use Rattle.layout.specs.Slots.{slot_of}
use Rattle.layout.specs.Layout.{channel_count, fields_of, field_steps, sum_over}
use Rattle.encoder_bit_demand.specs.Demand.{smr_at, first_step}
use Rattle.allocation_run.specs.Entries.{slot_mnr, charge}
use Rattle.plan_text.specs.Quoted.{text}
use Rattle.text_line.specs.Line.{aligned}
use Rattle.text_line.specs.Number.{number_text}
use Rattle.text_line.specs.Decibels.{decibels_text}

-- the texts of the channels below n, one behind the other
abbrev pub joined : (ℕ → List ℕ) → ℕ → List ℕ
joined f zero = []
joined f (suc n) = joined f n ++ f n

-- a group of columns for each channel
abbrev pub column_heads : List ℕ
column_heads = text "     ratio  steps      left |"

unfoldable pub heading_line : ℕ → List ℕ
heading_line channels = text "subband |" ++ joined (λ ch. column_heads) channels ++ text "  bits"

abbrev pub row_start : ℕ → List ℕ
row_start sb = aligned 7 (number_text sb) ++ text " |"

-- a slot's signal-to-mask ratio, its steps, and the mask-to-noise ratio that they leave
unfoldable pub slot_columns : Float → ℕ → List ℕ
slot_columns smr steps =
    aligned 10 (decibels_text smr) ++ aligned 7 (number_text steps) ++ aligned 10 (decibels_text (slot_mnr steps smr)) ++ text " |"

abbrev pub channel_columns : List ℕ → List (List Float) → ℕ → ℕ → List ℕ
channel_columns steps smr sb ch = slot_columns (smr_at smr ch sb) (get_or steps (slot_of ch sb) 0)

-- the bits charged for the fields of a subband; the steps are by slot
abbrev pub bits_in : List ℕ → ℕ → AllocationField → ℕ
bits_in steps sb x = cond (eqb x.subband sb) (charge (field_steps steps x) (first_step x)) 0

unfoldable pub subband_bits : Layout → List ℕ → ℕ → ℕ
subband_bits l steps sb = sum_over (bits_in steps sb) (fields_of l)

unfoldable pub subband_line : Layout → List ℕ → List (List Float) → ℕ → List ℕ
subband_line l steps smr sb =
    row_start sb ++ joined (channel_columns steps smr sb) (channel_count l) ++ aligned 6 (number_text (subband_bits l steps sb))
