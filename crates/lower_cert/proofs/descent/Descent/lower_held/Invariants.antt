use Rattle.lower_cert.proofs.descent.Descent.lower_held.Given as goal

abbrev pub ghost-search_for : goal.ghost-search_for
ghost-search_for g a = g.run

abbrev pub ghost-search_first : goal.ghost-search_first
ghost-search_first g a = g.run

abbrev pub ghost-restore : goal.ghost-restore
ghost-restore g a = g.run

abbrev pub ghost-settle_within : goal.ghost-settle_within
ghost-settle_within g a = g.run
