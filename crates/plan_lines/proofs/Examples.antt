-- Worked examples of the definitions: 44100 Hz, stereo, 192 kbit/s.
use mathlib.Core.Path.{◌≡◌, refl}
use Rattle.bitalloc.specs.declared.BitAllocTable.TheVariants.{B2b}
use Rattle.encoder_bit_budget.specs.declared.FixedBitBudget.{FixedBitBudget}
use Rattle.plan_text.specs.Quoted.{text}
use Rattle.text_line.specs.Line.{aligned}
use Rattle.text_line.specs.Number.{digits_of}
use Rattle.plan_lines.specs.Lines.{limits_text, frame_line, bits_line, balance_text, demand_line}

budget : FixedBitBudget
budget = record { cb = 5008; bhdr = 32; bcrc = 0; bbal = 188; sblimit = 30; bound = 30; channels = 2; table = B2b }

frame : frame_line budget ≡ text "frame      626 bytes, table B2b, sblimit 30, bound 30"
unfolding budget frame_line limits_text aligned digits_of
frame = refl

offered : bits_line (text "offered ") 4788 ≡ text "offered   4788 bits"
unfolding bits_line aligned digits_of
offered = refl

short : demand_line 5104 4788 ≡ text "demand    5104 bits, short by 316 bits"
unfolding demand_line bits_line balance_text aligned digits_of
short = refl

enough : demand_line 4788 4788 ≡ text "demand    4788 bits, enough"
unfolding demand_line bits_line balance_text aligned digits_of
enough = refl
