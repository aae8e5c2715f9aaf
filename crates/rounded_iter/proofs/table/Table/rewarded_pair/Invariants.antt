use Rattle.rounded_iter.proofs.table.Table.rewarded_pair.Given as goal

abbrev pub ghost-weigh_pair : goal.ghost-weigh_pair
ghost-weigh_pair g a = g.spans

abbrev pub ghost-rewarded_sum : goal.ghost-rewarded_sum
ghost-rewarded_sum g a = g.spans
