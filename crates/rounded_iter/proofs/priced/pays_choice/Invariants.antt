use Rattle.rounded_iter.proofs.priced.pays_choice.Given as goal

abbrev pub ghost-table_greatest : goal.ghost-table_greatest
ghost-table_greatest g a = g.spans
