use Rattle.std.proofs.Common.{◌-◌, ◌≡◌, ◌≤◌, MatchOption}
use Rattle.lift_grid.specs.Rectangle.{spans_of}
use Rattle.corner_lift.specs.Case.{at}
use Rattle.region_tree.specs.Rooms.{KeepsPools}
use Rattle.region_tree.specs.Sides.{AreUndecidedBelow, IsDecidedFrom, IsUndecided}
use Rattle.region_tree.proofs.Settling.{IsSoundBelow}
use Rattle.region_tree.proofs.search.Search.settle.Given as goal

abbrev pub invariant-loop-low : goal.invariant-loop-low
invariant-loop-low g l =
    let s = g.S.Sought.certificates l.self.sought in
    let k = l.finder.case.now in
    let spans = spans_of l.finder.sides.now in
    record {
      from : l.self.from ≤ l.low;
      high : l.low ≤ l.high;
      most : l.high ≤ k.w;
      collapse : l.collapse ≡ l.fn.collapse;
      pools : KeepsPools l.fn.pools l.pools;
      sound : IsSoundBelow s k spans l.outlook;
      below : AreUndecidedBelow s k l.self.from spans l.low;
      top : IsUndecided s (at k l.high) spans → ⊥;
      held : MatchOption l.held (Unit {0}) (IsDecidedFrom s (at k l.high) spans l.pools);
    }

abbrev pub decreases-loop-low : goal.decreases-loop-low
decreases-loop-low g l = l.high - l.low
