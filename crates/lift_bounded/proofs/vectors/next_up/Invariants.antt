use Rattle.lift_bounded.proofs.vectors.next_up.Given as goal

abbrev pub ghost-step_up : goal.ghost-step_up
ghost-step_up g a = g.spans
