-- What each function replies to arguments that mean something, over the definitions that the function which it wraps is proved equal to.
-- Beside a number that is not 0 the definitions have the refused record's values; beside 17, 6 and 18 the place that they are about.
use Rattle.std.specs.Prelude.{ℕ, [], ◌∷◌}
use Rattle.side_info_writer.specs.Written.{WrittenAnswer, written_of}
use Rattle.record_check.specs.Check.{CheckAnswer, check_of}
use Rattle.canonical_form.specs.Canonical.{canonical_of}
use Rattle.c_answers.specs.Answers.{Reply, reply}
use Rattle.c_side_info.specs.declared.record.Frame.{Frame}

-- a writer's answer in its two slices: the bytes; and how many of their bits are used
abbrev pub bytes_in : WrittenAnswer → Reply ℕ
bytes_in w = reply w.number w.bytes

abbrev pub bits_in : WrittenAnswer → Reply ℕ
bits_in w = reply w.number (w.bits_used ∷ [])

abbrev pub bytes_written : Frame → Reply ℕ
bytes_written f = bytes_in (written_of f.header f.side)

abbrev pub bits_written : Frame → Reply ℕ
bits_written f = bits_in (written_of f.header f.side)

abbrev pub bytes_canonical : Frame → Reply ℕ
bytes_canonical f = bytes_in (canonical_of f.header f.side)

abbrev pub bits_canonical : Frame → Reply ℕ
bits_canonical f = bits_in (canonical_of f.header f.side)

-- a checker's answer: the subband and the channel that it is about
abbrev pub place_in : CheckAnswer → Reply ℕ
place_in r = reply r.number (r.subband ∷ r.channel ∷ [])

abbrev pub place_checked : Frame → Reply ℕ
place_checked f = place_in (check_of f.header f.side)
