use Rattle.std.proofs.Common.{◌≡◌, length, false}
use Rattle.lift_pool.specs.Shapes.{IsSameShape}
use Rattle.lift_bounded.specs.Lanes.{HaveRisen}
use Rattle.lift_bounded.specs.Steps.{nth, IsLeastStep}
use Rattle.lift_bounded.proofs.vectors.least_uppers.Given as goal

abbrev pub ghost-next_up : goal.ghost-next_up
ghost-next_up g a = g.spans

-- the lanes up to n are written, and where the last step brought no other vector, its vector is still there
abbrev pub invariant-loop-n : goal.invariant-loop-n
invariant-loop-n g l = record {
  risen : HaveRisen l.rows.case g.spans l.h l.n l.numbers.lanes;
  shape : IsSameShape l.fn.numbers l.numbers;
  size : length l.work ≡ length l.rows.case.model.states;
  still : l.rising ≡ false → (nth l.numbers.lanes l.n ≡ l.work) × IsLeastStep l.rows.case g.spans (nth l.numbers.lanes l.n) l.work;
}
