use Rattle.lift_bounded.proofs.steps.upper_at.Given as goal

abbrev pub ghost-covering : goal.ghost-covering
ghost-covering g a = g.spans
