-- `planner::plan_line` meets its contract.
use Rattle.text_line.proofs.PageLaws.{moved}
use Rattle.planner.proofs.PlanLaws.{words_too_long, input_too_long, good_words, bad_words}
use Rattle.planner.proofs.plan_line.Goals as goal

pub returns-then-words-ge-WORDS_ROOM : goal.returns-then-words-ge-WORDS_ROOM
returns-then-words-ge-WORDS_ROOM c = moved c.args.n (words_too_long _ _ _ c.if-words-ge-WORDS_ROOM.true c.long_words.ensures) c.only.ensures

pub returns-then-input-ge-INPUT_ROOM : goal.returns-then-input-ge-INPUT_ROOM
returns-then-input-ge-INPUT_ROOM c = moved c.args.n (input_too_long _ _ _ c.if-words-ge-WORDS_ROOM.false c.if-input-ge-INPUT_ROOM.true c.long_input.ensures) c.only-then-input-ge-INPUT_ROOM.ensures

pub returns-in-Ok : goal.returns-in-Ok
returns-in-Ok c =
    moved c.args.n
    (good_words c.args.words.now c.args.input.now c.if-words-ge-WORDS_ROOM.false c.if-input-ge-INPUT_ROOM.false _ c.in-Ok.ensures)
    c.with_words.ensures

pub returns-in-Err : goal.returns-in-Err
returns-in-Err c =
    moved c.args.n
    (bad_words c.args.words.now c.args.input.now c.if-words-ge-WORDS_ROOM.false c.if-input-ge-INPUT_ROOM.false _ _ c.in-Err.ensures c.words_line.ensures)
    c.only-in-Err.ensures
