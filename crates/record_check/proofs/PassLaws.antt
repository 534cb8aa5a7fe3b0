-- Records that hang together: those whose fields the writer finds equal, and whose slots hold the other two conditions; both ways.
use mathlib.Core.Path.{◌≡◌}
use mathlib.Core.Bool.{true}
use native.Mathlib.Omega.{arith}
use Prim.Native.Nat.{ℕ, ◌<◌}
use lib.ListN.{length}
use Rattle.layout.specs.declared.Layout.{Layout}
use Rattle.layout.specs.declared.AllocationField.{AllocationField}
use Rattle.layout.specs.Slots.{slot_of}
use Rattle.layout.specs.Layout.{fields_of, field_in}
use Rattle.layout.proofs.FieldLaws.{carried, serves_first, channel_small}
use Rattle.bitalloc.proofs.RowLaws.{sblimit_small}
use Rattle.side_info.specs.declared.SideInfo.{SideInfo}
use Rattle.side_info.specs.SideInfo.{shared_asked}
use Rattle.record_check.specs.Together.{StepsCarried, StepsShared, IndicesShared, HangsTogether}
use Rattle.record_check.proofs.SlotLaws.{serving, first_slot, shared_holds, holds_shared}

-- question 6 is answered yes of every field, and the other two hold
pub hang_together : (l : Layout) (s : SideInfo) → ((slot : ℕ) → slot < 64 → StepsCarried l s slot)
    → ((f : ℕ) → f < length (fields_of l) → (shared_asked s (field_in (fields_of l) f)).yes ≡ true) → ((slot : ℕ) → IndicesShared l s slot) → HangsTogether l s
hang_together l s carried equal agrees slot h = record { carried = carried slot h; shared = shared; agrees = agrees slot }
  where
    shared : StepsShared l s slot
    shared f other p q = shared_holds l s f slot p (equal f (serving l f slot p).here) f other p q

-- and then it is answered yes of every field
pub fields_equal : (l : Layout) (s : SideInfo) → HangsTogether l s → (f : ℕ) → f < length (fields_of l) → (shared_asked s (field_in (fields_of l) f)).yes ≡ true
fields_equal l s whole f h =
    let x : AllocationField = field_in (fields_of l) f in
    let slot = slot_of x.channel x.subband in
    let small : slot < 64 = omega (arith, carried l f h, sblimit_small l.table, channel_small l f h x.channel (serves_first l f h)) in
    holds_shared l s f slot (first_slot l f h) (whole slot small).shared
