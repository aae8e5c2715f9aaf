use Rattle.lift_bounded.proofs.vectors.next_down.Given as goal

abbrev pub ghost-step_down : goal.ghost-step_down
ghost-step_down g a = g.spans
