use Rattle.lower_cert.proofs.sweep.held_by_only.Given as goal

abbrev pub ghost-held_by_only_pair : goal.ghost-held_by_only_pair
ghost-held_by_only_pair g a = g.spans
