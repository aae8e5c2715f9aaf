use Rattle.lift_collapse.proofs.lanes.Lanes.guess_one.Given as goal

abbrev pub ghost-least_one_within : goal.ghost-least_one_within
ghost-least_one_within g a = g.spans
