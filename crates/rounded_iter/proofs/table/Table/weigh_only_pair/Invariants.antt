use Rattle.rounded_iter.proofs.table.Table.weigh_only_pair.Given as goal

abbrev pub ghost-greatest_of : goal.ghost-greatest_of
ghost-greatest_of g a = g.spans

abbrev pub ghost-least_of : goal.ghost-least_of
ghost-least_of g a = g.spans
