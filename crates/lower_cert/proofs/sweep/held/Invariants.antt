use Rattle.lower_cert.proofs.sweep.held.Given as goal

abbrev pub ghost-held_at_corners : goal.ghost-held_at_corners
ghost-held_at_corners g a = g.spans

abbrev pub ghost-held_by_pair : goal.ghost-held_by_pair
ghost-held_by_pair g a = g.spans

abbrev pub ghost-held_by_least : goal.ghost-held_by_least
ghost-held_by_least g a = g.spans
