use Rattle.lift_bounded.proofs.decision.decide_over.Given as goal

abbrev pub ghost-decide_in : goal.ghost-decide_in
ghost-decide_in g a = g.spans
