-- The active slots as an array.
use Rattle.std.specs.Prelude.{ℕ, List, take}
use Rattle.active_slots.specs.declared.slots.ActiveSlots.{ActiveSlots}

-- those listed, in the order in which scfsi and scalefactors travel
abbrev pub listed : ActiveSlots → List ℕ
listed a = take a.count a.slots
