use Rattle.rounded_iter.proofs.table.Table.rewarded_only.Given as goal

abbrev pub ghost-rewarded_single : goal.ghost-rewarded_single
ghost-rewarded_single g a = g.spans

abbrev pub ghost-rewarded_only_pair : goal.ghost-rewarded_only_pair
ghost-rewarded_only_pair g a = g.spans
