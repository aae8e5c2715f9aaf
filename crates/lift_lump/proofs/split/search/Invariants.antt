use Rattle.std.proofs.Common.{◌≡◌, ◌≤◌, length}
use Rattle.lift_lump.specs.Search.{arrows_into}
use Rattle.lift_lump.specs.Splitting.{AreInside, AreUsed, AreListed, AreClear, IsKeptAbove}
use Rattle.lift_lump.proofs.split.search.Given as goal

abbrev pub invariant-loop-block : goal.invariant-loop-block
invariant-loop-block l = record {
  inside : AreInside l.part.labels.items l.part.sizes.items l.part.members;
  used : AreUsed l.part.labels.items (length l.part.members);
  listed : AreListed l.part.labels.items l.part.members;
  size : length l.part.labels.items ≡ length l.fn.part.labels.items;
  clear : AreClear (length l.fn.part.labels.items) l.room.numbers.items l.room.marks.items;
  count : length l.fn.part.members ≤ length l.part.members;
  kept : IsKeptAbove (arrows_into l.arrows) l.fn.part.labels.items l.part.labels.items;
}
