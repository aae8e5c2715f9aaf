use Rattle.rounded_iter.specs.Held.{IsRaisedIn}
use Rattle.rounded_iter.proofs.table.Table.rise_beside.Given as goal

abbrev pub ghost-pass_beside : goal.ghost-pass_beside
ghost-pass_beside g a = g.run

abbrev pub ghost-turn_held : goal.ghost-turn_held
ghost-turn_held g a = g.run

abbrev pub invariant-loop : goal.invariant-loop
invariant-loop g l = IsRaisedIn l.self g.run l.component.low l.component.high l.initial.lane l.lane
