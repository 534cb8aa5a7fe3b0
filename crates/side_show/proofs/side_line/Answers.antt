-- `side_show::side_line` meets its contract.
use Rattle.text_line.proofs.PageLaws.{moved}
use Rattle.side_show.proofs.SideLaws.{words_too_long, good_words, bad_words}
use Rattle.side_show.proofs.side_line.Goals as goal

pub returns-then-words-ge-WORDS_ROOM : goal.returns-then-words-ge-WORDS_ROOM
returns-then-words-ge-WORDS_ROOM c = moved _ (words_too_long _ _ _ c.if-words-ge-WORDS_ROOM.true c.long_words.ensures) c.only.ensures

pub returns-in-Ok : goal.returns-in-Ok
returns-in-Ok c =
    moved _ (good_words c.args.words.now c.args.input.now c.if-words-ge-WORDS_ROOM.false _ c.in-Ok.ensures) c.with_input.ensures

pub returns-in-Err : goal.returns-in-Err
returns-in-Err c =
    moved _ (bad_words c.args.words.now c.args.input.now c.if-words-ge-WORDS_ROOM.false _ _ c.in-Err.ensures c.words_line.ensures) c.only-in-Err.ensures
