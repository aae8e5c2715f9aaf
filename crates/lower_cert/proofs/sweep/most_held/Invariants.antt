use Rattle.lower_cert.proofs.sweep.most_held.Given as goal

abbrev pub ghost-held_by_only : goal.ghost-held_by_only
ghost-held_by_only g a = g.spans

abbrev pub ghost-held_by_choices : goal.ghost-held_by_choices
ghost-held_by_choices g a = g.spans
