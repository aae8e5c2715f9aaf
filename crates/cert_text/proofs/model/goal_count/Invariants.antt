use Rattle.std.proofs.Common.{◌≡◌, ◌≤◌, ◌+◌, drop, length}
use Rattle.cert_text.specs.Report.{goal_states}
use Rattle.cert_text.proofs.model.goal_count.Given as goal

abbrev pub invariant-loop-s : goal.invariant-loop-s
invariant-loop-s l = record {
  small : l.count ≤ l.s;
  so_far : l.count + length (goal_states l.s (drop l.s l.model.goal)) ≡ length (goal_states 0 l.model.goal);
}
