use Rattle.corner_lift.proofs.lifted.Lifted.is_held.Given as goal

abbrev pub ghost-is_held : goal.ghost-is_held
ghost-is_held g a = g.spans
