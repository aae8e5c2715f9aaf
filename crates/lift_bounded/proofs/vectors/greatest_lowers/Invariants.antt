use Rattle.std.proofs.Common.{◌≡◌, length, false}
use Rattle.lift_pool.specs.Shapes.{IsSameShape}
use Rattle.lift_bounded.specs.Lanes.{HaveSunk}
use Rattle.lift_bounded.specs.Steps.{nth, IsGreatestStep}
use Rattle.lift_bounded.proofs.vectors.greatest_lowers.Given as goal

abbrev pub ghost-next_down : goal.ghost-next_down
ghost-next_down g a = g.spans

-- the lanes up to n are written, and where the last step brought no other vector, its vector and choices are still there
abbrev pub invariant-loop-n : goal.invariant-loop-n
invariant-loop-n g l = record {
  sunk : HaveSunk l.rows.case g.spans l.h l.n l.numbers.lanes l.picks.lanes;
  shape : IsSameShape l.fn.numbers l.numbers;
  marked : IsSameShape l.fn.picks l.picks;
  size : length l.work ≡ length l.rows.case.model.states;
  count : length l.marks ≡ length l.rows.case.model.states;
  still : l.rising ≡ false → (nth l.numbers.lanes l.n ≡ l.work) × IsGreatestStep l.rows.case g.spans (nth l.numbers.lanes l.n) l.work l.marks;
}
