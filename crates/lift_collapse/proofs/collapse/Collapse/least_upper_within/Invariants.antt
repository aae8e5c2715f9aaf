use Rattle.lift_collapse.proofs.collapse.Collapse.least_upper_within.Given as goal

abbrev pub ghost-least_upper_within : goal.ghost-least_upper_within
ghost-least_upper_within g a = g.spans
