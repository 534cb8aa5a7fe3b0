-- What the arguments stand for by which C hands over a header and the record of its frame's side information.
use Rattle.std.specs.Prelude.{ℕ, Bool, cond, ◌||◌, List, map, leb, ltb, length, take, Option, None, Some}
use Rattle.std.specs.List.{list_all}
use Rattle.header.specs.declared.FrameHeader.{FrameHeader}
use Rattle.audio_data.specs.declared.Scfsi.{Scfsi}
use Rattle.audio_data.specs.Scfsi.{of_code}
use Rattle.side_info.specs.declared.SideInfo.{SideInfo}
use Rattle.side_info.specs.SideInfo.{side_info}
use Rattle.c_answers.specs.declared.arguments.HeaderNumbers.{HeaderNumbers}
use Rattle.c_side_info.specs.declared.record.RecordSlices.{RecordSlices}
use Rattle.c_side_info.specs.declared.record.Frame.{Frame}
use Rattle.c_answers.specs.Answers.{Meaning, asked}
use Rattle.c_answers.specs.Arguments.{header_in}

-- ---- the record: steps and scfsi codes by slot, scalefactor indices at 3 * slot + granule

-- one of its slices is short
abbrev pub short_record : List ℕ → List ℕ → List ℕ → Bool
short_record steps scfsi index = ltb (length steps) 64 || (ltb (length scfsi) 64 || ltb (length index) 192)

-- each scfsi is a two-bit code
abbrev pub are_codes : List ℕ → Bool
are_codes codes = list_all (λ code. leb code 3) codes

-- a slot's scfsi by its code
abbrev pub coded : ℕ → Scfsi
coded code = of_code code

-- the record of the first elements; nothing where one of its scfsi is no code
unfoldable pub record_in : List ℕ → List ℕ → List ℕ → Option SideInfo
record_in steps scfsi index =
    cond (are_codes (take 64 scfsi)) (Some (side_info (take 64 steps) (map coded (take 64 scfsi)) (take 192 index))) None

-- ---- with its header

abbrev pub frame : FrameHeader → SideInfo → Frame
frame h r = record { header = h; side = r }

-- where there are both
abbrev pub framed : Option FrameHeader → Option SideInfo → Option Frame
framed None r = None
framed (Some h) None = None
framed (Some h) (Some r) = Some (frame h r)

-- what a function with a header and a record asks first: whether a slice of the record, or another, is short; then what the arguments mean
abbrev pub frame_meant : Bool → ℕ → ℕ → ℕ → ℕ → ℕ → ℕ → ℕ → List ℕ → List ℕ → List ℕ → Meaning Frame
frame_meant short lsf bit-rate sample-rate padding protection mode extension steps scfsi index =
    asked (short_record steps scfsi index || short)
    (framed (header_in lsf bit-rate sample-rate padding protection mode extension) (record_in steps scfsi index))

-- the same of the code's seven numbers
abbrev pub frame_numbered : Bool → HeaderNumbers → List ℕ → List ℕ → List ℕ → Meaning Frame
frame_numbered short n steps scfsi index =
    frame_meant short n.lsf n.bit_rate n.sample_rate n.padding n.protection_bit n.mode n.mode_extension steps scfsi index

-- the same of the record's slices
abbrev pub frame_asked : Bool → HeaderNumbers → RecordSlices → Meaning Frame
frame_asked short n r = frame_numbered short n r.steps.now r.scfsi.now r.index.now
