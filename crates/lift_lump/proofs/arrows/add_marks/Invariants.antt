use Rattle.std.proofs.Common.{take}
use Rattle.lift_lump.specs.Search.{AreRaised, AreVisited}
use Rattle.lift_lump.proofs.arrows.add_marks.Given as goal

abbrev pub invariant-loop-arrow : goal.invariant-loop-arrow
invariant-loop-arrow l = record {
  raised : AreRaised l.fn.numbers l.numbers (take l.arrow-index l.arrows);
  visited : AreVisited l.fn.numbers l.fn.visited.items → AreVisited l.numbers l.visited.items;
}
