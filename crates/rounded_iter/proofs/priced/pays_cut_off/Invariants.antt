use Rattle.rounded_iter.proofs.priced.pays_cut_off.Given as goal

abbrev pub ghost-pays : goal.ghost-pays
ghost-pays g a = g.spans
