use Rattle.rounded_iter.specs.Held.{AreKept}
use Rattle.rounded_iter.proofs.table.Table.keep.Given as goal

abbrev pub invariant-loop-position : goal.invariant-loop-position
invariant-loop-position l = AreKept l.self l.component.low l.position l.lane l.kept
