use Rattle.std.proofs.Common.{◌≡◌, ◌+◌, ◌*◌, ◌++◌, take, length}
use Rattle.lift_grid.specs.Rectangle.{spans_of}
use Rattle.corner_lift.specs.Table.{first_corners}
use Rattle.corner_lift.proofs.table.fill_pairs.Given as goal

-- the pairs of corners so far were written
abbrev pub invariant-loop-pair : goal.invariant-loop-pair
invariant-loop-pair l = record {
  at : l.at ≡ l.place + length l.row * (2 * l.pair);
  filled : take l.at l.weights ≡ take l.place l.initial.weights ++ first_corners l.case.d (spans_of l.sides) l.row (2 * l.pair);
}
