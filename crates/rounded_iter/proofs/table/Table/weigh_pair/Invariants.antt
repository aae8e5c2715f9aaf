use Rattle.rounded_iter.proofs.table.Table.weigh_pair.Given as goal

abbrev pub ghost-greatest : goal.ghost-greatest
ghost-greatest g a = g.spans

abbrev pub ghost-least : goal.ghost-least
ghost-least g a = g.spans
