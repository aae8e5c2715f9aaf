use Rattle.lift_bounded.proofs.steps.raised.Given as goal

abbrev pub ghost-raised_by_pair : goal.ghost-raised_by_pair
ghost-raised_by_pair g a = g.spans

abbrev pub ghost-raised_by_row : goal.ghost-raised_by_row
ghost-raised_by_row g a = g.spans
