use Rattle.rounded_iter.proofs.table.Table.rewarded_state.Given as goal

abbrev pub ghost-rewarded_only : goal.ghost-rewarded_only
ghost-rewarded_only g a = g.spans

abbrev pub ghost-rewarded_choices : goal.ghost-rewarded_choices
ghost-rewarded_choices g a = g.spans
