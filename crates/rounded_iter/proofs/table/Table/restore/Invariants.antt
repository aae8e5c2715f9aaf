use Rattle.std.proofs.Common.{◌≡◌, ℕ}
use Rattle.corner_lift.specs.Case.{number}
use Rattle.rounded_iter.specs.Held.{AreKept, IsOutside}
use Rattle.rounded_iter.proofs.table.Table.restore.Given as goal

-- the states so far have them
abbrev pub invariant-loop-position : goal.invariant-loop-position
invariant-loop-position l = record {
  inside : AreKept l.self l.component.low l.position l.lane l.kept;
  outside : (s : ℕ) → IsOutside l.self l.component.low l.component.high s → number l.lane s ≡ number l.initial.lane s;
}
