use Rattle.rounded_iter.proofs.table.Table.rewarded_only_pair.Given as goal

abbrev pub ghost-weigh_only_pair : goal.ghost-weigh_only_pair
ghost-weigh_only_pair g a = g.spans

abbrev pub ghost-rewarded_sum : goal.ghost-rewarded_sum
ghost-rewarded_sum g a = g.spans
