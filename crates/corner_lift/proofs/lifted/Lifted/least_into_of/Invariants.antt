use Rattle.corner_lift.proofs.lifted.Lifted.least_into_of.Given as goal

abbrev pub ghost-least_into_of : goal.ghost-least_into_of
ghost-least_into_of g a = g.spans
