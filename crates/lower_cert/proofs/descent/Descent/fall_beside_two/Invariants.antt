use Rattle.lower_cert.proofs.descent.Descent.fall_beside_two.Given as goal

abbrev pub ghost-fall_beside : goal.ghost-fall_beside
ghost-fall_beside g a = g.run

abbrev pub ghost-search_for : goal.ghost-search_for
ghost-search_for g a = g.run

abbrev pub ghost-search_beside_two : goal.ghost-search_beside_two
ghost-search_beside_two g a = g.run

abbrev pub ghost-restore : goal.ghost-restore
ghost-restore g a = g.run

abbrev pub ghost-fall_alone : goal.ghost-fall_alone
ghost-fall_alone g a = g.run
