-- `bitalloc::kept_rows::places` meets its contract: a place for each code of the field, and none past the last range.
use Rattle.bitalloc.proofs.KeptLaws.{no_places, places_counted}
use Rattle.bitalloc.proofs.kept_rows.places.Goals as goal

pub returns-then-bits-eq0 : goal.returns-then-bits-eq0
returns-then-bits-eq0 c =
    no_places _ _ c.nbal-bits.ensures.whole c.if-bits-eq0.true

pub returns-else-bits-eq0 : goal.returns-else-bits-eq0
returns-else-bits-eq0 c =
    places_counted _ _ c.nbal-bits.ensures.whole c.if-bits-eq0.false
