use Rattle.lift_bounded.proofs.steps.held_by_pair.Given as goal

abbrev pub ghost-least : goal.ghost-least
ghost-least g a = g.spans
