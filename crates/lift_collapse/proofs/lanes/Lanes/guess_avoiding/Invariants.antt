use Rattle.lift_collapse.proofs.lanes.Lanes.guess_avoiding.Given as goal

abbrev pub ghost-least_avoiding_within : goal.ghost-least_avoiding_within
ghost-least_avoiding_within g a = g.spans
