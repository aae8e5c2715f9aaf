use Rattle.rounded_iter.specs.Held.{IsRaisedIn, beside}
use Rattle.rounded_iter.proofs.table.Table.raise_to.Given as goal

abbrev pub ghost-raise_at : goal.ghost-raise_at
ghost-raise_at g a = g.run

abbrev pub invariant-loop-position : goal.invariant-loop-position
invariant-loop-position g l = IsRaisedIn l.self (beside l.self g.run l.component) l.component.low l.component.high l.initial.lane l.lane
