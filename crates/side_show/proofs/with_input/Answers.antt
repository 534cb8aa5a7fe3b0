-- `side_show::with_input` meets its contract.
use mathlib.Core.Path.{ap, ap₂, ◌∙◌}
use borrow.Author.Rules.{rules}
use Rattle.std.specs.Prelude.{Err}
use Rattle.text_line.proofs.PageLaws.{moved}
use Rattle.side_show.specs.Notes.{wrong_character_text, odd_digits_text}
use Rattle.side_show.proofs.SideLaws.{input_too_long, good_digits, wrong_digit, digit_over}
use Rattle.side_show.proofs.with_input.Goals as goal

pub returns-then-input-ge-INPUT_ROOM : goal.returns-then-input-ge-INPUT_ROOM
returns-then-input-ge-INPUT_ROOM c = moved _ (input_too_long _ _ _ c.if-input-ge-INPUT_ROOM.true c.long_input.ensures) c.only.ensures

pub returns-in-Ok : goal.returns-in-Ok
returns-in-Ok c =
    moved _ (good_digits _ _ c.if-input-ge-INPUT_ROOM.false _ _ c.read_hex.ensures (search rules) _ c.in-Ok.is) c.with_bytes.ensures

pub returns-in-Err-WrongCharacter : goal.returns-in-Err-WrongCharacter
returns-in-Err-WrongCharacter c =
    let k = c.in-Err-WrongCharacter in
    moved _
    (wrong_digit _ _ c.if-input-ge-INPUT_ROOM.false _ _ c.read_hex.ensures _ _ _ (k.is ∙ ap Err k.field-0-is)
    (c.wrong_character.ensures ∙ ap₂ wrong_character_text k.line-is k.column-is))
    c.only-in-Err-WrongCharacter.ensures

pub returns-in-Err-OddDigits : goal.returns-in-Err-OddDigits
returns-in-Err-OddDigits c =
    let k = c.in-Err-OddDigits in
    moved _
    (digit_over _ _ c.if-input-ge-INPUT_ROOM.false _ _ c.read_hex.ensures _ _ (k.is ∙ ap Err k.field-0-is)
    (c.odd_digits.ensures ∙ ap odd_digits_text k.line-is))
    c.only-in-Err-OddDigits.ensures
