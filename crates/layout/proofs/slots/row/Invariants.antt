use Rattle.std.proofs.Common.{◌≡◌, ℕ, ◌<◌, ◌≤◌, length, get_or}
use lib.Ieee.{nan}
use Rattle.layout.specs.Slots.{slot_of}
use Rattle.layout.proofs.slots.row.Given as goal

abbrev pub invariant-loop-sb : goal.invariant-loop-sb
invariant-loop-sb l = record {
  long : length l.ratios ≡ 32;
  held : (k : ℕ) → k < l.sb → get_or l.ratios k nan ≡ get_or l.by_slot (slot_of l.channel k) nan;
  rest : (k : ℕ) → l.sb ≤ k → get_or l.ratios k nan ≡ nan;
}
