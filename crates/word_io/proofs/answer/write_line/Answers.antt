-- `word_io::answer::write_line` hands on the line of its number, with its line feed.
use Rattle.std.proofs.Common.{◌∙◌}
use Rattle.word_io.proofs.WrittenLaws.{line_fed}
use Rattle.word_io.proofs.answer.write_line.Goals as goal

pub write_text-requires : goal.write_text-requires
write_text-requires g c =
    let page = g.A.Answer.page c.args.words.now c.args.input.now in
    c.as_bytes-text.ensures ∙ c.ended-ended.ensures ∙ line_fed page c.args.n c.args.line c.requires
