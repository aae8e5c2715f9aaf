use Rattle.rounded_iter.proofs.table.Table.enough_for_only.Given as goal

abbrev pub ghost-enough_for_single : goal.ghost-enough_for_single
ghost-enough_for_single g a = g.spans

abbrev pub ghost-enough_for_only_pair : goal.ghost-enough_for_only_pair
ghost-enough_for_only_pair g a = g.spans
