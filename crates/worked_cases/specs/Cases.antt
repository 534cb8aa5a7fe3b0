-- Worked cases: answers found by hand, in one table, and the claim that the definitions give them.
use Rattle.std.specs.Prelude.{ℕ, zero, suc, ◌≡◌, Bool, true, false, List, [], ◌∷◌, ◌++◌, map, Float, length, replicate, Option, None, Some}
use Rattle.tables.specs.Decimal.{decimal}
use Rattle.header.specs.declared.FrameHeader.{FrameHeader}
use Rattle.header.specs.declared.Mode.{Mode}
use Rattle.header.specs.declared.Mode.TheVariants.{Stereo, JointStereo, DualChannel, SingleChannel}
use Rattle.header.specs.declared.ModeExtension.TheVariants.{Bound4}
use Rattle.header.specs.Header.{frame_size}
use Rattle.bitalloc.specs.declared.BitAllocTable.{BitAllocTable}
use Rattle.bitalloc.specs.declared.BitAllocTable.TheVariants.{B2a, B2b, B2c, B1Lsf}
use Rattle.table_selection.specs.Select.{table_of}
use Rattle.audio_data.specs.declared.Scfsi.{Scfsi}
use Rattle.audio_data.specs.declared.Scfsi.TheVariants.{ThreePerGranule, ShareAll}
use Rattle.audio_data.specs.Scfsi.{code_of}
use Rattle.encoder_scalefactors.specs.Indices.{pick_of}
use Rattle.encoder_scfsi.specs.Select.{selection}
use Rattle.encoder_bit_budget.specs.Budget.{plain, BudgetAnswer, budget_of, fixed_in}
use Rattle.encoder_bit_allocator.specs.Allocation.{AllocationAnswer, allocation_of}
use Rattle.side_info.specs.SideInfo.{side_info}
use Rattle.side_info_writer.specs.Written.{WrittenAnswer, written_of}
use Rattle.side_info_reading.specs.Read.{ReadAnswer, read_of}
use Rattle.record_check.specs.Check.{CheckAnswer, check_of}
use Rattle.canonical_form.specs.Canonical.{canonical_of}

-- ---- what is asked, and what is answered

-- the signal-to-mask ratios of a question: one for every slot, or whatever they are
pub data Ratios : Type 0 where
  each : Float → Ratios
  any : Ratios

pub data Question : Type 0 where
  -- the table that a header selects
  table : FrameHeader → Question
  -- the bytes of its frame
  bytes : FrameHeader → Question
  -- its budget
  budget : FrameHeader → Question
  -- its allocation, with these ratios and so many ancillary bits
  allocation : FrameHeader → Ratios → ℕ → Question
  -- its side information, written from steps, scfsi and scalefactor indices
  side_information : FrameHeader → List ℕ → List Scfsi → List ℕ → Question
  -- the same in its one form
  canonical_information : FrameHeader → List ℕ → List Scfsi → List ℕ → Question
  -- whether such a record hangs together
  record_check : FrameHeader → List ℕ → List Scfsi → List ℕ → Question
  -- the side information at the front of bytes
  side_information_in : FrameHeader → List ℕ → Question
  -- the indices used for three scalefactor indices
  used : ℕ → ℕ → ℕ → Question
  -- the scalefactor index of a largest magnitude
  index : Float → Question

pub data Answer : Type 0 where
  -- the table, or none
  selected : Option BitAllocTable → Answer
  -- of a frame's size: the answer's number, and the bytes
  sized : ℕ → ℕ → Answer
  -- of a budget: the answer's number, the table, the bits of the frame, the fixed ones of them
  budgeted : ℕ → BitAllocTable → ℕ → ℕ → Answer
  -- of an allocation: the answer's number, the steps of the slots, the bits left; the bits of the frame, the fixed and the ancillary ones
  allocated : ℕ → List ℕ → ℕ → ℕ → ℕ → ℕ → Answer
  -- of side information: the answer's number, the bytes, the bits used
  bits : ℕ → List ℕ → ℕ → Answer
  -- of a check: the answer's number, the subband, the channel
  named : ℕ → ℕ → ℕ → Answer
  -- of side information that is read: the answer's number, the steps, the scfsi codes, the scalefactor indices, the bits used
  found : ℕ → List ℕ → List ℕ → List ℕ → ℕ → Answer
  -- scalefactor indices
  indices : List ℕ → Answer

abbrev of_budget : BudgetAnswer → Answer
of_budget a = budgeted a.answer a.budget.table a.budget.cb (fixed_in a.budget)

abbrev of_allocation : AllocationAnswer → Answer
of_allocation a = allocated a.number a.audio.nb_steps a.left a.cb a.fixed a.banc

abbrev of_written : WrittenAnswer → Answer
of_written w = bits w.number w.bytes w.bits_used

abbrev of_check : CheckAnswer → Answer
of_check c = named c.number c.subband c.channel

abbrev of_read : ReadAnswer → Answer
of_read r = found r.number r.info.steps (map code_of r.info.scfsi) r.info.scalefactors r.bits_used

-- the two rows of ratios, where `any` stands for those given
abbrev rows_of : List (List Float) → Ratios → List (List Float)
rows_of smr (each x) = replicate 2 (replicate 32 x)
rows_of smr any = smr

-- the answer by the definitions
unfoldable pub answer_to : List (List Float) → Question → Answer
answer_to smr (table h) = selected (table_of h)
answer_to smr (bytes h) = sized (frame_size h).answer (frame_size h).bytes
answer_to smr (budget h) = of_budget (budget_of (plain h 0))
answer_to smr (allocation h ratios banc) = of_allocation (allocation_of (plain h banc) (rows_of smr ratios))
answer_to smr (side_information h steps scfsi scalefactors) = of_written (written_of h (side_info steps scfsi scalefactors))
answer_to smr (canonical_information h steps scfsi scalefactors) = of_written (canonical_of h (side_info steps scfsi scalefactors))
answer_to smr (record_check h steps scfsi scalefactors) = of_check (check_of h (side_info steps scfsi scalefactors))
answer_to smr (side_information_in h captured) = of_read (read_of h captured)
answer_to smr (used a b c) = indices (selection a b c).used
answer_to smr (index x) = indices (pick_of x ∷ [])

-- ---- the table

pub record Case : Type 0 where
  pub asked : Question
  pub expected : Answer

abbrev case : Question → Answer → Case
case q a = record { asked = q; expected = a }

-- a header without padding; in joint stereo the bound is 4
abbrev frame : Bool → ℕ → ℕ → Mode → Bool → FrameHeader
frame lsf hz rate mode noCrc = record {
  lsf = lsf;
  bit_rate = rate;
  sample_rate = hz;
  padding = false;
  mode = mode;
  mode_extension = Bound4;
  protection_bit = noCrc;
}

-- 48000 Hz, single channel, 32000 bit/s, with a CRC and without
abbrev pub mono : FrameHeader
mono = frame false 48_000 32_000 SingleChannel false

abbrev mono_no_crc : FrameHeader
mono_no_crc = frame false 48_000 32_000 SingleChannel true

-- slots without steps
abbrev pub idle : ℕ → List ℕ
idle slots = replicate slots 0

-- joint stereo with bound 4, and stereo, at 44100 Hz and 192000 bit/s without a CRC: table B2b, 30 subbands
abbrev joint : FrameHeader
joint = frame false 44_100 192_000 JointStereo true

abbrev stereo : FrameHeader
stereo = frame false 44_100 192_000 Stereo true

-- the steps of the slots: a number of subband 3 and one of subband 4 in channel 0, one of subband 4 in channel 1
abbrev around4 : ℕ → ℕ → ℕ → List ℕ
around4 a b c = idle 3 ++ (a ∷ b ∷ idle 27 ++ (idle 4 ++ (c ∷ idle 27)))

-- a refusal to read
abbrev nothing_found : ℕ → Answer
nothing_found n = found n (idle 64) (idle 64) (idle 192) 0

-- one scfsi for every slot, and one index for every granule of every slot
abbrev all_with : Scfsi → List Scfsi
all_with s = replicate 64 s

abbrev indexed : ℕ → List ℕ
indexed i = replicate 192 i

-- three bytes, again and again
abbrev repeated : ℕ → List ℕ → List ℕ
repeated zero xs = []
repeated (suc n) xs = xs ++ repeated n xs

-- a case in each mode
abbrev in_each_mode : (Mode → Case) → List Case
in_each_mode f = f Stereo ∷ f JointStereo ∷ f DualChannel ∷ f SingleChannel ∷ []

unfoldable pub cases : List Case
unfolding decimal
cases =
    -- single channel at 48000 Hz and 32000 bit/s with a CRC: table B2c, 768 bits, 74 of them fixed
    case (budget mono) (budgeted 0 B2c 768 74)
    -- 694 ancillary bits beside them fill the frame: no slot has steps, whatever the ratios
    ∷ case (allocation mono any 694) (allocated 0 (idle 64) 0 0 0 0)
    -- 695 do not fit: answer 4 with the three numbers, whatever the ratios
    ∷ case (allocation mono any 695) (allocated 4 (idle 64) 0 768 74 695)
    -- without a CRC, every ratio 0 dB, 630 ancillary bits: the 80 bits left buy subband 0 its first step
    ∷ case (allocation mono_no_crc (each (decimal 1 0_0)) 630) (allocated 0 (3 ∷ idle 63) 0 0 0 0)
    -- with 631 the 79 bits left buy none
    ∷ case (allocation mono_no_crc (each (decimal 1 0_0)) 631) (allocated 0 (idle 64) 79 0 0 0)
    -- joint stereo with bound 4 at 44100 Hz and 192000 bit/s without a CRC: table B2b, 626 bytes, 142 bits fixed
    ∷ case (budget (frame false 44_100 192_000 JointStereo true)) (budgeted 0 B2b 5008 142)
    -- stereo at 44100 Hz and 193000 bit/s: off the ladder; an odd number of kbit/s selects no table, and the frame has 630 bytes
    ∷ case (budget (frame false 44_100 193_000 Stereo true)) (budgeted 16 B2a 0 0)
    ∷ case (table (frame false 44_100 193_000 Stereo true)) (selected None)
    ∷ case (bytes (frame false 44_100 193_000 Stereo true)) (sized 0 630)
    -- single channel at 48000 Hz and 64999 bit/s: off the ladder; it counts as 64 kbit/s and selects table B2a, and the frame has 194 bytes
    ∷ case (budget (frame false 48_000 64_999 SingleChannel true)) (budgeted 16 B2a 0 0)
    ∷ case (allocation (frame false 48_000 64_999 SingleChannel true) any 0) (allocated 16 (idle 64) 0 0 0 0)
    ∷ case (table (frame false 48_000 64_999 SingleChannel true)) (selected (Some B2a))
    ∷ case (bytes (frame false 48_000 64_999 SingleChannel true)) (sized 0 194)
    -- 64000 bit/s there: 192 bytes, of whose bits 120 are fixed
    ∷ case (budget (frame false 48_000 64_000 SingleChannel true)) (budgeted 0 B2a 1536 120)
    -- 144 kbit/s are on the ladder of LSF alone, 384 on the other alone
    ∷ case (budget (frame true 24_000 144_000 SingleChannel true)) (budgeted 0 B1Lsf 6912 107)
    ∷ case (budget (frame false 48_000 144_000 SingleChannel true)) (budgeted 16 B2a 0 0)
    ∷ case (budget (frame false 48_000 384_000 Stereo true)) (budgeted 0 B2a 9216 208)
    ∷ case (budget (frame true 24_000 384_000 Stereo true)) (budgeted 16 B2a 0 0)
    -- on the ladder, and no table: 384000 bit/s in single channel
    ∷ case (budget (frame false 48_000 384_000 SingleChannel true)) (budgeted 1 B2a 0 0)
    -- free format is on both ladders: a frame that counts no bits beside the fixed ones
    ∷ case (budget (frame false 48_000 0 SingleChannel true)) (budgeted 0 B2a 0 120)
    ∷ case (budget (frame true 24_000 0 SingleChannel true)) (budgeted 0 B1Lsf 0 107)
    -- side information: subband 0 alone has steps, one index for all granules: 26 bits of allocation, 0001 and zeros; 10; 000101
    ∷ case (side_information mono (3 ∷ idle 63) (all_with ShareAll) (indexed 5)) (bits 0 (16 ∷ 0 ∷ 0 ∷ 33 ∷ 64 ∷ idle 169) 34)
    -- the longest: every slot at place 1, three indices 62 each: 188 bits of allocation (22 times 0001, 24 times 001, 14 times 01), 120 zeros
    -- of scfsi, 180 times 111110
    ∷ case (side_information stereo (replicate 30 3 ++ (idle 2 ++ (replicate 30 3 ++ idle 2))) (all_with ThreePerGranule) (indexed 62))
    (bits 0
    (replicate 11 17 ++ (repeated 3 (36 ∷ 146 ∷ 73 ∷ []) ++ (85 ∷ 85 ∷ 85 ∷ 80 ∷ idle 14 ++ (15 ∷ repeated 44 (190 ∷ 251 ∷ 239 ∷ []) ++ (190 ∷ 251 ∷ 224 ∷ [])))))
    1388)
    -- a shared subband whose channels differ is 6; steps that the row of a lower one lacks are 7 before it, those of its own come behind it
    ∷ case (side_information joint (around4 0 3 5) (all_with ShareAll) (indexed 5)) (bits 6 (idle 174) 0)
    ∷ case (side_information joint (around4 4 3 5) (all_with ShareAll) (indexed 5)) (bits 7 (idle 174) 0)
    ∷ case (side_information joint (around4 0 4 5) (all_with ShareAll) (indexed 5)) (bits 6 (idle 174) 0)
    -- an index of 63 is 8 where a slot is active, sent or not, but not before 6 and 7; where no slot is, no index is looked at
    ∷ case (side_information mono (3 ∷ idle 63) (all_with ShareAll) (0 ∷ 63 ∷ idle 190)) (bits 8 (idle 174) 0)
    ∷ case (side_information joint (around4 0 3 5) (all_with ShareAll) (indexed 63)) (bits 6 (idle 174) 0)
    ∷ case (side_information mono (idle 64) (all_with ShareAll) (indexed 63)) (bits 0 (idle 174) 26)
    -- the second channel of a single one and what lies above the table are not read
    ∷ case (side_information mono (idle 8 ++ replicate 56 4) (all_with ShareAll) (indexed 63)) (bits 0 (idle 174) 26)
    -- the header is asked first
    ∷ case (side_information (frame false 48_000 64_999 SingleChannel true) (4 ∷ idle 63) (all_with ShareAll) (indexed 63)) (bits 16 (idle 174) 0)
    -- and read: the 26 bits of allocation do not fit three bytes; in four they say that nothing is allocated
    ∷ case (side_information_in mono []) (nothing_found 9)
    ∷ case (side_information_in mono (idle 3)) (nothing_found 9)
    ∷ case (side_information_in mono (idle 4)) (found 0 (idle 64) (idle 64) (idle 192) 26)
    -- subband 0 alone has steps, one index for all granules; without the last two of its bits
    ∷ case (side_information_in mono (16 ∷ 0 ∷ 0 ∷ 33 ∷ 64 ∷ [])) (found 0 (3 ∷ idle 63) (2 ∷ idle 63) (5 ∷ 5 ∷ 5 ∷ idle 189) 34)
    ∷ case (side_information_in mono (16 ∷ 0 ∷ 0 ∷ 33 ∷ [])) (nothing_found 9)
    -- two indices, 5 and 62; 5 and 63, with which the bytes end
    ∷ case (side_information_in mono (16 ∷ 0 ∷ 0 ∷ 17 ∷ 126 ∷ [])) (found 0 (3 ∷ idle 63) (1 ∷ idle 63) (5 ∷ 5 ∷ 62 ∷ idle 189) 40)
    ∷ case (side_information_in mono (16 ∷ 0 ∷ 0 ∷ 17 ∷ 127 ∷ [])) (nothing_found 10)
    -- three indices, of which the third is not there: the second is 63, or 62
    ∷ case (side_information_in mono (16 ∷ 0 ∷ 0 ∷ 1 ∷ 127 ∷ [])) (nothing_found 10)
    ∷ case (side_information_in mono (16 ∷ 0 ∷ 0 ∷ 1 ∷ 126 ∷ [])) (nothing_found 9)
    -- joint stereo with bound 4: subband 4 has one field for both channels, and scfsi and indices of each
    ∷ case (side_information_in (frame false 48_000 64_000 JointStereo true) (0 ∷ 0 ∷ 0 ∷ 4 ∷ 0 ∷ 177 ∷ 193 ∷ 8 ∷ []))
    (found 0 (around4 0 5 5) (around4 0 2 3) (idle 12 ++ (7 ∷ 7 ∷ 7 ∷ idle 93 ++ (1 ∷ 2 ∷ 2 ∷ idle 81))) 62)
    ∷ case (side_information_in (frame false 48_000 64_000 JointStereo true) (0 ∷ 0 ∷ 0 ∷ 4 ∷ 0 ∷ 177 ∷ 193 ∷ [])) (nothing_found 9)
    -- the header is asked first
    ∷ case (side_information_in (frame false 48_000 64_999 SingleChannel true) []) (nothing_found 16)
    -- a record checked: steps in the second channel of a single one, and behind the table's eight subbands, are 17; idle slots' indices are free, and so
    -- are, in this check, steps that the row lacks and an index of 63
    ∷ case (record_check mono (3 ∷ idle 63) (all_with ShareAll) (5 ∷ 5 ∷ 5 ∷ 1 ∷ 2 ∷ 3 ∷ idle 186)) (named 0 0 0)
    ∷ case (record_check mono (4 ∷ idle 63) (all_with ShareAll) (indexed 63)) (named 0 0 0)
    ∷ case (record_check mono (idle 32 ++ (3 ∷ idle 31)) (all_with ShareAll) (indexed 5)) (named 17 0 1)
    ∷ case (record_check mono (idle 8 ++ (3 ∷ idle 55)) (all_with ShareAll) (indexed 5)) (named 17 8 0)
    -- joint stereo with bound 4: the channels of subband 4 differ, which comes before indices of its first channel that contradict their scfsi, but behind
    -- those of subband 3; where the channels are equal, the indices of the second
    ∷ case (record_check joint (around4 0 3 5) (all_with ShareAll) (idle 12 ++ (1 ∷ idle 179))) (named 6 4 0)
    ∷ case (record_check joint (around4 3 3 5) (all_with ShareAll) (idle 9 ++ (1 ∷ idle 182))) (named 18 3 0)
    ∷ case (record_check joint (around4 3 3 3) (all_with ShareAll) (idle 110 ++ (1 ∷ idle 81))) (named 18 4 1)
    -- the header is asked first
    ∷ case (record_check (frame false 48_000 64_999 SingleChannel true) (idle 8 ++ (3 ∷ idle 55)) (all_with ShareAll) (indexed 5)) (named 16 0 0)
    -- in the one form, whatever scfsi is given: one index where the three agree; two where the first two do, or the last two; three where the first and the last
    -- alone do
    ∷ case (canonical_information mono (3 ∷ idle 63) (all_with ThreePerGranule) (5 ∷ 5 ∷ 5 ∷ idle 189)) (bits 0 (16 ∷ 0 ∷ 0 ∷ 33 ∷ 64 ∷ idle 169) 34)
    ∷ case (canonical_information mono (3 ∷ idle 63) (all_with ThreePerGranule) (5 ∷ 5 ∷ 62 ∷ idle 189)) (bits 0 (16 ∷ 0 ∷ 0 ∷ 17 ∷ 126 ∷ idle 169) 40)
    ∷ case (canonical_information mono (3 ∷ idle 63) (all_with ThreePerGranule) (5 ∷ 62 ∷ 62 ∷ idle 189)) (bits 0 (16 ∷ 0 ∷ 0 ∷ 49 ∷ 126 ∷ idle 169) 40)
    ∷ case (canonical_information mono (3 ∷ idle 63) (all_with ThreePerGranule) (5 ∷ 62 ∷ 5 ∷ idle 189)) (bits 0 (16 ∷ 0 ∷ 0 ∷ 1 ∷ 126 ∷ 20 ∷ idle 168) 46)
    -- nor do idle slots make a difference
    ∷ case (canonical_information mono (3 ∷ idle 63) (all_with ShareAll) (5 ∷ 5 ∷ 5 ∷ 1 ∷ 2 ∷ 63 ∷ idle 186)) (bits 0 (16 ∷ 0 ∷ 0 ∷ 33 ∷ 64 ∷ idle 169) 34)
    -- the check's numbers come first: 17 of a slot behind the table, 6 and 18, each beside steps of a lower subband that its row lacks; 18 beside an index of 63
    ∷ case (canonical_information mono (4 ∷ idle 7 ++ (3 ∷ idle 55)) (all_with ShareAll) (indexed 5)) (bits 17 (idle 174) 0)
    ∷ case (canonical_information joint (around4 4 3 5) (all_with ShareAll) (indexed 5)) (bits 6 (idle 174) 0)
    ∷ case (canonical_information joint (around4 4 3 3) (all_with ShareAll) (idle 110 ++ (1 ∷ idle 81))) (bits 18 (idle 174) 0)
    ∷ case (canonical_information mono (3 ∷ idle 63) (all_with ShareAll) (0 ∷ 63 ∷ idle 190)) (bits 18 (idle 174) 0)
    -- then 7, and then 8
    ∷ case (canonical_information mono (3 ∷ 4 ∷ idle 62) (all_with ShareAll) (indexed 63)) (bits 7 (idle 174) 0)
    ∷ case (canonical_information mono (3 ∷ idle 63) (all_with ShareAll) (indexed 63)) (bits 8 (idle 174) 0)
    -- the header is asked first
    ∷ case (canonical_information (frame false 48_000 64_999 SingleChannel true) (4 ∷ idle 7 ++ (3 ∷ idle 55)) (all_with ShareAll) (indexed 63)) (bits 16 (idle 174) 0)
    -- the scalefactor indices 10, 12, 11 become one; 0, 3, 3 stay; 0, 2, 4 become the smallest
    ∷ case (used 10 12 11) (indices (10 ∷ 10 ∷ 10 ∷ []))
    ∷ case (used 0 3 3) (indices (0 ∷ 3 ∷ 3 ∷ []))
    ∷ case (used 0 2 4) (indices (0 ∷ 0 ∷ 0 ∷ []))
    -- a maximum of 1.0 has the scalefactor index 3, one of 0.0 the last; 2.0 has the first, and so has 3.0, above every multiplier
    ∷ case (index (decimal 1 1_0)) (indices (3 ∷ []))
    ∷ case (index (decimal 1 0_0)) (indices (62 ∷ []))
    ∷ case (index (decimal 1 2_0)) (indices (0 ∷ []))
    ∷ case (index (decimal 1 3_0)) (indices (0 ∷ []))
    -- a sample rate of 0 at 32000 bit/s, in every mode: with LSF there is a table and the sample rate is refused, without there is no table
    ∷ in_each_mode (λ mode. case (budget (frame true 0 32_000 mode true)) (budgeted 2 B2a 0 0))
    ++ in_each_mode (λ mode. case (budget (frame false 0 32_000 mode true)) (budgeted 1 B2a 0 0))
    -- and at 33000 bit/s, off the ladder, which is asked first
    ++ in_each_mode (λ mode. case (budget (frame true 0 33_000 mode true)) (budgeted 16 B2a 0 0))
    ++ in_each_mode (λ mode. case (budget (frame false 0 33_000 mode true)) (budgeted 16 B2a 0 0))

-- ---- the claim

-- the definitions give what is expected, row by row, whatever ratios stand for `any`
unfoldable pub Hold : List Case → Type 0
Hold cs = (smr : List (List Float)) → map (λ c. answer_to smr c.asked) cs ≡ map (λ c. c.expected) cs

-- what `count` promises
pub record CasesHold (r : ℕ) : Type 0 where
  pub whole : r ≡ length cases
  pub hold : Hold cases
