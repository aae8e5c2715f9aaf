use Rattle.lift_bounded.proofs.steps.raised_by_pair.Given as goal

abbrev pub ghost-greatest : goal.ghost-greatest
ghost-greatest g a = g.spans
