use Rattle.rounded_iter.proofs.table.Table.visit_first.Given as goal

abbrev pub ghost-raise_lone : goal.ghost-raise_lone
ghost-raise_lone g a = g.run

abbrev pub ghost-visit : goal.ghost-visit
ghost-visit g a = g.run
