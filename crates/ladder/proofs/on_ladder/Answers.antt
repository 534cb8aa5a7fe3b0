-- `ladder::on_ladder` meets its contract: free format, and the ladder of the flag.
use mathlib.Core.Path.{refl, sym, ap, ◌∙◌}
use lib.Dec.{eqb}
use Rattle.std.specs.List.{list_any}
use Rattle.ladder.proofs.LadderLaws.{in_free_format, by_flag, listed_rate}
use Rattle.ladder.proofs.on_ladder.Goals as goal

pub returns-then-is_free_format : goal.returns-then-is_free_format
returns-then-is_free_format c =
    c.if-is_free_format.true ∙ sym (in_free_format _ (sym c.is_free_format.ensures ∙ c.if-is_free_format.true))

pub returns-else-is_free_format : goal.returns-else-is_free_format
returns-else-is_free_format c =
    let n = c.args.header.bit_rate in
    c.contains.ensures.value ∙ ap (list_any (λ r. eqb r n)) c.ladder_of.ensures ∙ listed_rate _ n
    ∙ sym (by_flag _ (sym c.is_free_format.ensures ∙ c.if-is_free_format.false) _ refl)
