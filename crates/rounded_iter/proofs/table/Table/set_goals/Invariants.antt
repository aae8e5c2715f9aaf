use Rattle.std.proofs.Common.{◌≡◌, ℕ, ◌<◌, true, false, pos, ◌^◌}
use Rattle.lift_model.specs.Model.{is_goal}
use Rattle.corner_lift.specs.Case.{number}
use Rattle.rounded_iter.proofs.table.Table.set_goals.Given as goal

-- the goal states below s were written
abbrev pub invariant-loop-s : goal.invariant-loop-s
invariant-loop-s l = record {
  goal : (i : ℕ) → i < l.s → is_goal l.self.case.model i ≡ true → number l.lane i ≡ pos (2 ^ l.self.case.w);
  other : (i : ℕ) → is_goal l.self.case.model i ≡ false → number l.lane i ≡ number l.initial.lane i;
}
