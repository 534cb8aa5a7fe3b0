-- `record_checker::agreeing` meets its contract, by the scfsi.
use mathlib.Core.Path.{sym, ap₂}
use Rattle.audio_data.specs.Scfsi.{agreeing}
use Rattle.record_checker.proofs.agreeing.Goals as goal

pub returns-in-Share01Then2 : goal.returns-in-Share01Then2
returns-in-Share01Then2 c = ap₂ agreeing (sym c.in-Share01Then2.is) c.granules.ensures

pub returns-in-ShareAll : goal.returns-in-ShareAll
returns-in-ShareAll c = ap₂ agreeing (sym c.in-ShareAll.is) c.granules.ensures

pub returns-in-Share0Then12 : goal.returns-in-Share0Then12
returns-in-Share0Then12 c = ap₂ agreeing (sym c.in-Share0Then12.is) c.granules.ensures
