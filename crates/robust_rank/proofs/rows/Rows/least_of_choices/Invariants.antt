use Rattle.std.proofs.Common.{ℕ, ◌<◌, ◌≤◌}
use Rattle.lift_model.specs.Model.{row_at}
use Rattle.lift_model.specs.Links.{targets_of}
use Rattle.corner_lift.specs.Certificate.{mark}
use Rattle.robust_rank.specs.InOrder.{AreClear}
use Rattle.robust_rank.proofs.rows.Rows.least_of_choices.Given as goal

abbrev pub invariant-loop-a : goal.invariant-loop-a
invariant-loop-a l = record {
  from : l.from ≤ l.to;
  clear : (b : ℕ) → b < l.a → AreClear (mark l.ranks) l.from l.to (targets_of (row_at l.self.case.now.model l.s b));
}
