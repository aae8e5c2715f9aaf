use Rattle.lift_bounded.proofs.steps.lower_at.Given as goal

abbrev pub ghost-best : goal.ghost-best
ghost-best g a = g.spans
