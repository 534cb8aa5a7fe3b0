-- `table_selection::bitrate_per_channel_kbps` meets its contract: each return rewrites the definition with the tests that led to it.
use mathlib.Core.Path.{sym, ◌∙◌}
use Prim.Native.Nat.{◌/◌, ◌%◌}
use lib.Dec.{eqb}
use borrow.Author.Tests.{eq-eqb, ne_eqb}
use Rattle.table_selection.specs.Select.{kbps_per_channel}
use Rattle.table_selection.proofs.SelectLaws.{only_where}
use Rattle.table_selection.proofs.bitrate_per_channel_kbps.Goals as goal

pub returns-then-channels-eq1 : goal.returns-then-channels-eq1
unfolding kbps_per_channel
returns-then-channels-eq1 c = simp (eq-eqb _ _ (sym c.channels.ensures.whole ∙ c.if-channels-eq1.true))

pub returns : goal.returns
unfolding kbps_per_channel
returns c =
    let total = c.args.header.bit_rate / 1000 in
    rw (ne_eqb _ _ (λ e. c.if-channels-eq1.false (c.channels.ensures.whole ∙ e))) (c.then_some.ensures ∙ only_where (eqb (total % 2) 0) (total / 2))
