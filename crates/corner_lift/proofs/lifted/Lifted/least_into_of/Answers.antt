use Rattle.corner_lift.proofs.lifted.Lifted.least_into_of.Goals as goal

pub returns-clause-least : goal.returns-clause-least
returns-clause-least g c = rw (← c.self.view_is) c.least_into_of.ensures.least
