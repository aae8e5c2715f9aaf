use Rattle.rounded_iter.proofs.table.Table.rewarded.Given as goal

abbrev pub ghost-rewarded_corners : goal.ghost-rewarded_corners
ghost-rewarded_corners g a = g.spans

abbrev pub ghost-rewarded_single : goal.ghost-rewarded_single
ghost-rewarded_single g a = g.spans

abbrev pub ghost-rewarded_pair : goal.ghost-rewarded_pair
ghost-rewarded_pair g a = g.spans

abbrev pub ghost-rewarded_row : goal.ghost-rewarded_row
ghost-rewarded_row g a = g.spans
