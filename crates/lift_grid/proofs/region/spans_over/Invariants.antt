use Rattle.std.proofs.Common.{take}
use Rattle.lift_grid.proofs.Spans.{Kept}
use Rattle.lift_grid.proofs.region.spans_over.Given as goal

abbrev pub invariant-loop-interval : goal.invariant-loop-interval
invariant-loop-interval l = Kept l.d l.depth l.sides.items (take l.interval-index l.intervals)
