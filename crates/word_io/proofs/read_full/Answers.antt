-- `word_io::read_full` meets its contract.
use Rattle.std.proofs.Common.{rules, length, ◌-◌, sym, subst}
use Rattle.std.specs.Io.KnownBytes.{Consumes}
use Rattle.word_io.proofs.ReadLaws.{read_on, taken}
use Rattle.word_io.proofs.read_full.Goals as goal

pub loop-at-preserved : goal.loop-at-preserved
loop-at-preserved g c =
    let i = c.loop-at.invariant in
    let e = read_on c.loop-at.at (length c.loop-at.input - c.loop-at.at) c.in-Ok.n c.loop-at.input c.read.new.buf i.0 (search rules) in (
      search rules,
      i.1,
      subst (Consumes (g.R.Read.remaining c.args.from.now) (g.R.Read.remaining c.read.new.self)) (sym e) (taken _ _ _ _ _ i.2 c.in-Ok.ensures.bytes.0),
    )
