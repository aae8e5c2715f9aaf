use Rattle.std.proofs.Common.{◌≡◌, ◌<◌, ◌≤◌, ℕ, true, length}
use Rattle.lift_model.specs.Model.{is_goal, row_at}
use Rattle.bounded_tests.proofs.lumping.goals_have_entries.Given as goal

abbrev pub invariant-loop-s : goal.invariant-loop-s
invariant-loop-s l = (s : ℕ) → s < l.s → is_goal l.model s ≡ true → 1 ≤ length (row_at l.model s 0)
