use Rattle.std.proofs.Common.{◌-◌, ◌≤◌, ◌↔◌, drop, length}
use Rattle.lift_grid.specs.Rectangle.{spans_of}
use Rattle.region_tree.specs.Recent.{Meet}
use Rattle.region_tree.proofs.recent.rectangles_meet.Given as goal

-- the spans that are left meet where all do
abbrev pub invariant-loop-at : goal.invariant-loop-at
invariant-loop-at l = record {
  place : l.at ≤ length l.sides;
  meet : Meet (spans_of (drop l.at l.sides)) (spans_of (drop l.at l.others)) ↔ Meet (spans_of l.sides) (spans_of l.others);
}

abbrev pub decreases-loop-at : goal.decreases-loop-at
decreases-loop-at l = length l.sides - l.at
