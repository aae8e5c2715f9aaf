use Rattle.rounded_iter.specs.Held.{IsRaisedIn}
use Rattle.rounded_iter.proofs.table.Table.pass_beside.Given as goal

abbrev pub ghost-step_beside : goal.ghost-step_beside
ghost-step_beside g a = g.run

abbrev pub invariant-loop-position : goal.invariant-loop-position
invariant-loop-position g l = IsRaisedIn l.self g.run l.component.low l.component.high l.initial.lane l.lane
