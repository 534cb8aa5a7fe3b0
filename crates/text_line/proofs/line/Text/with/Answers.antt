use Rattle.std.proofs.Common.{rules}
use Rattle.text_line.proofs.LineLaws.{put_behind}
use Rattle.text_line.proofs.line.Text.with.Goals as goal

pub returns : goal.returns
returns g c = put_behind g.row.N _ _ _ c.args.self.bytes c.args.added.now _ (search rules) c.args.self.within c.min-n.ensures c.copy_from_slice.ensures.after
