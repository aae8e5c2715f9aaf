use Rattle.lift_bounded.proofs.steps.held.Given as goal

abbrev pub ghost-held_by_pair : goal.ghost-held_by_pair
ghost-held_by_pair g a = g.spans

abbrev pub ghost-held_by_row : goal.ghost-held_by_row
ghost-held_by_row g a = g.spans
