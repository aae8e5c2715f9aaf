use Rattle.rounded_iter.specs.Held.{beside}
use Rattle.rounded_iter.proofs.table.Table.rise_held_at.Given as goal

abbrev pub ghost-rise_beside : goal.ghost-rise_beside
ghost-rise_beside g a = beside a.self.now g.run a.component
