use Rattle.std.proofs.Common.{◌≡◌, ◌<◌, length, take, All}
use Rattle.lift_lump.specs.Search.{modulus, AreVisited, AreMarked, AreNumbersOf, arrows_into}
use Rattle.lift_lump.proofs.gather.gather.Given as goal

abbrev pub invariant-loop-t : goal.invariant-loop-t
invariant-loop-t l = record {
  sizes : (length l.marks ≡ length l.labels) × (length l.numbers ≡ length l.labels);
  below : All (λ n. n < modulus) l.numbers;
  are_marked : AreMarked l.labels l.block (take l.t-index l.members) l.marks;
  are_numbers : AreNumbersOf (arrows_into l.arrows) l.marks l.numbers;
  are_visited : AreVisited l.numbers l.visited.items;
}
