use Rattle.std.proofs.Common.{◌≡◌, ◌+◌, ◌≤◌, length, sum_by, take}
use Rattle.lift_model.specs.Valid.{most_transitions}
use Rattle.lift_collapse.proofs.build.more_transitions.Given as goal

-- those of the rows so far are counted
abbrev pub invariant-loop-row : goal.invariant-loop-row
invariant-loop-row l = (l.count ≡ l.others + sum_by length (take l.row-index l.rows)) × (l.count ≤ most_transitions)
