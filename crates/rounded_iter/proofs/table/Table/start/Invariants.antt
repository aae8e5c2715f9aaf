use Rattle.std.proofs.Common.{◌≡◌, ℕ, ◌<◌}
use Rattle.corner_lift.specs.Case.{number}
use Rattle.rounded_iter.specs.Watching.{first_number}
use Rattle.rounded_iter.proofs.table.Table.start.Given as goal

-- the states below s were written
abbrev pub invariant-loop-s : goal.invariant-loop-s
invariant-loop-s g l = (i : ℕ) → i < l.s → number l.lane i ≡ first_number l.self.case l.self.rule.ends i
