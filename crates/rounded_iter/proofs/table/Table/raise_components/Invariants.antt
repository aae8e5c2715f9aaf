use Rattle.rounded_iter.specs.Rising.{IsBelow}
use Rattle.rounded_iter.proofs.table.Table.raise_components.Given as goal

abbrev pub ghost-raise_component : goal.ghost-raise_component
ghost-raise_component g a = g.run

abbrev pub invariant-loop-position : goal.invariant-loop-position
invariant-loop-position g l = IsBelow l.self.rule l.self.case g.run l.lane
