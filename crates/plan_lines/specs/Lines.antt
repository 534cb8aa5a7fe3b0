-- The lines above and below the rows.
use Rattle.std.specs.Prelude.{ℕ, ◌-◌, ◌/◌, cond, List, ◌++◌, leb}
use Rattle.bitalloc.specs.declared.BitAllocTable.{BitAllocTable}
use Rattle.bitalloc.specs.declared.BitAllocTable.TheVariants.{B2a, B2b, B2c, B2d, B1Lsf}
use Rattle.encoder_bit_budget.specs.declared.FixedBitBudget.{FixedBitBudget}
use Rattle.plan_lines.specs.declared.lines.Label.{Label}
use Rattle.plan_lines.specs.declared.lines.Label.TheVariants.{Fixed, Offered, Demand, Charged, Left, Used}
use Rattle.plan_text.specs.Quoted.{text}
use Rattle.text_line.specs.Line.{aligned}
use Rattle.text_line.specs.Number.{number_text}

-- the name of a table: 3-B.2a to d, and B.1 of the low sampling frequencies
abbrev pub table_text : BitAllocTable → List ℕ
table_text B2a = text "B2a"
table_text B2b = text "B2b"
table_text B2c = text "B2c"
table_text B2d = text "B2d"
table_text B1Lsf = text "B1"

-- how many subbands are carried, and from which on the channels share a field
unfoldable pub limits_text : ℕ → ℕ → List ℕ
limits_text sblimit bound = text ", sblimit " ++ number_text sblimit ++ text ", bound " ++ number_text bound

unfoldable pub frame_line : FixedBitBudget → List ℕ
frame_line b =
    text "frame   " ++ aligned 6 (number_text (b.cb / 8)) ++ text " bytes, table " ++ table_text b.table ++ limits_text b.sblimit b.bound

-- in free format the header does not tell the frame's size
unfoldable pub free_line : FixedBitBudget → List ℕ
free_line b = text "frame   free format, table " ++ table_text b.table ++ limits_text b.sblimit b.bound

-- eight characters
abbrev pub label_text : Label → List ℕ
label_text Fixed = text "fixed   "
label_text Offered = text "offered "
label_text Demand = text "demand  "
label_text Charged = text "charged "
label_text Left = text "left    "
label_text Used = text "used    "

-- a number of bits behind a label of eight characters
unfoldable pub bits_line : List ℕ → ℕ → List ℕ
bits_line label n = label ++ aligned 6 (number_text n) ++ text " bits"

-- the demand against what is offered
unfoldable pub balance_text : ℕ → ℕ → List ℕ
balance_text demand offered =
    cond (leb demand offered) (text ", enough") (text ", short by " ++ number_text (demand - offered) ++ text " bits")

unfoldable pub demand_line : ℕ → ℕ → List ℕ
demand_line demand offered = bits_line (text "demand  ") demand ++ balance_text demand offered
