use Rattle.lift_collapse.proofs.collapse.Collapse.lower_above.Given as goal

abbrev pub ghost-lower_above : goal.ghost-lower_above
ghost-lower_above g a = g.spans
