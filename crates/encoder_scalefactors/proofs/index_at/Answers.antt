-- `encoder_scalefactors::index_at` meets its contract: each return is one side of the limit.
use Rattle.encoder_scalefactors.proofs.IndexLaws.{within, beyond}
use Rattle.encoder_scalefactors.proofs.index_at.Goals as goal

pub returns-then-sb-sblimit : goal.returns-then-sb-sblimit
returns-then-sb-sblimit c = within _ _ _ _ _ c.if-sb-sblimit.true c.index_from.ensures.whole

pub returns-else-sb-sblimit : goal.returns-else-sb-sblimit
returns-else-sb-sblimit c = beyond _ _ _ _ c.if-sb-sblimit.false
