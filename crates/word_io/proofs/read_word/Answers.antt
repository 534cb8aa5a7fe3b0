use Rattle.std.proofs.Common.{rules, length, ◌≡◌, ◌-◌}
use borrow.Rule.Slice.PartMut.{put_mid, take_put}
use Rattle.word_io.proofs.WordLaws.{word_there}
use Rattle.word_io.proofs.read_word.Goals as goal

pub returns-in-Ok : goal.returns-in-Ok
returns-in-Ok g c =
    let old = c.args.words.now in
    let at = c.args.at in
    let part = c.arg.new.buf in
    let mid = put_mid at (length old - at) old part in
    let long : length mid ≡ length old = search rules in
    word_there old mid _ at c.in-Ok.size _ c.requires long (take_put at (length old - at) old part c.requires) c.end_word.ensures
