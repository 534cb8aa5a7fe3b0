-- What the function that reads side information replies to arguments that mean something. Beside a number that is not 0 the definitions have the refused
-- record's values.
use Rattle.std.specs.Prelude.{ℕ, Bool, ◌||◌, List, [], ◌∷◌, map, ltb, length}
use Rattle.header.specs.declared.FrameHeader.{FrameHeader}
use Rattle.audio_data.specs.declared.Scfsi.{Scfsi}
use Rattle.audio_data.specs.Scfsi.{code_of}
use Rattle.side_info_reading.specs.Read.{ReadAnswer, read_of}
use Rattle.c_answers.specs.declared.arguments.HeaderNumbers.{HeaderNumbers}
use Rattle.c_answers.specs.Answers.{Meaning, asked, Reply, reply}
use Rattle.c_answers.specs.Arguments.{header_numbered}

-- one of its slices is short
abbrev pub short : List ℕ → List ℕ → List ℕ → List ℕ → Bool
short steps scfsi index out = ltb (length steps) 64 || (ltb (length scfsi) 64 || (ltb (length index) 192 || ltb (length out) 1))

-- what is asked first: whether a slice is short, then what the header's numbers mean
abbrev pub header_asked : HeaderNumbers → List ℕ → List ℕ → List ℕ → List ℕ → Meaning FrameHeader
header_asked n steps scfsi index out = asked (short steps scfsi index out) (header_numbered n)

-- the codes of scfsi
abbrev pub codes_of : List Scfsi → List ℕ
codes_of slots = map code_of slots

-- a reader's answer in its four slices: by slot the steps and the scfsi codes; the scalefactor indices; and how many bits are used
abbrev pub steps_in : ReadAnswer → Reply ℕ
steps_in r = reply r.number r.info.steps

abbrev pub scfsi_in : ReadAnswer → Reply ℕ
scfsi_in r = reply r.number (codes_of r.info.scfsi)

abbrev pub indices_in : ReadAnswer → Reply ℕ
indices_in r = reply r.number r.info.scalefactors

abbrev pub bits_in : ReadAnswer → Reply ℕ
bits_in r = reply r.number (r.bits_used ∷ [])

-- the replies to bytes and a header
abbrev pub steps_read : List ℕ → FrameHeader → Reply ℕ
steps_read bytes h = steps_in (read_of h bytes)

abbrev pub scfsi_read : List ℕ → FrameHeader → Reply ℕ
scfsi_read bytes h = scfsi_in (read_of h bytes)

abbrev pub indices_read : List ℕ → FrameHeader → Reply ℕ
indices_read bytes h = indices_in (read_of h bytes)

abbrev pub bits_read : List ℕ → FrameHeader → Reply ℕ
bits_read bytes h = bits_in (read_of h bytes)
