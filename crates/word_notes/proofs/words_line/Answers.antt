-- `word_notes::words_line` meets its contract.
use lib.Dec.{lit≤}
use Rattle.text_line.proofs.LineLaws.{alone}
use Rattle.word_notes.proofs.words_line.Goals as goal

pub returns-in-Err-NoSampleRate : goal.returns-in-Err-NoSampleRate
returns-in-Err-NoSampleRate c =
    let k = c.in-Err-NoSampleRate in
    let e = rw k.is at k.field-0-is in
    rw (k.is, e) (alone _ c.new-in-Err-NoSampleRate.ensures c.text.ensures (lit≤ tt))

pub returns-in-Err-NoBitRate : goal.returns-in-Err-NoBitRate
returns-in-Err-NoBitRate c =
    let k = c.in-Err-NoBitRate in
    let e = rw k.is at k.field-0-is in
    rw (k.is, e) (alone _ c.new-in-Err-NoBitRate.ensures c.text-in-Err-NoBitRate.ensures (lit≤ tt))
