use Rattle.corner_lift.proofs.RowLaws.{root_sides_inside}
use Rattle.corner_lift.proofs.case.Case.root.Goals as goal

pub returns-clause-inside : goal.returns-clause-inside
returns-clause-inside c = rw (← c.self.view_is) (root_sides_inside _ c.self.invariant)
