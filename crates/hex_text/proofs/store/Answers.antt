-- `hex_text::store` meets its contract.
use mathlib.Core.Path.{sym}
use lib.Seq.{set_out}
use Rattle.hex_text.proofs.store.Goals as goal

pub returns-else-at-bytes : goal.returns-else-at-bytes
returns-else-at-bytes c = sym (set_out _ _ _ c.if-at-bytes.false)
