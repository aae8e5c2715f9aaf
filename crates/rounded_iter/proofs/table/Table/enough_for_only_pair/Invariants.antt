use Rattle.rounded_iter.proofs.table.Table.enough_for_only_pair.Given as goal

abbrev pub ghost-weigh_only_pair : goal.ghost-weigh_only_pair
ghost-weigh_only_pair g a = g.spans
