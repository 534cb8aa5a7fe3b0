-- `plan_page::accepted::Accepted::line` meets its contract.
use mathlib.Core.Path.{sym, ap, ◌∙◌}
use Prim.Native.Nat.{◌-◌}
use Rattle.std.specs.Prelude.{Some}
use Rattle.layout.specs.declared.Layout.{Layout}
use Rattle.plan_page.specs.Rows.{subband_line}
use Rattle.plan_page.proofs.PageLaws.{in_head, in_rows, in_foot}
use Rattle.plan_page.proofs.accepted.Accepted.line.Goals as goal

pub returns-then-n-lt6 : goal.returns-then-n-lt6
returns-then-n-lt6 c = c.head_line.ensures ∙ sym (in_head _ _ _ _ _ _ _ c.if-n-lt6.true)

pub returns-then-n-sblimit : goal.returns-then-n-sblimit
returns-then-n-sblimit c =
    let page = c.args.self.now in
    ap Some (c.subband_line.ensures ∙ ap (λ (l : Layout). subband_line l page.steps page.smr_db (c.args.n - 6)) c.layout-layout.ensures)
    ∙ sym (in_rows _ _ _ _ _ _ _ c.if-n-lt6.false c.if-n-sblimit.true)

pub returns-else-n-sblimit : goal.returns-else-n-sblimit
returns-else-n-sblimit c = c.foot_line.ensures ∙ sym (in_foot _ _ _ _ _ _ _ c.if-n-lt6.false c.if-n-sblimit.false)
