use Rattle.corner_lift.proofs.lifted.Lifted.greatest.Given as goal

abbrev pub ghost-row : goal.ghost-row
ghost-row g a = g.spans
