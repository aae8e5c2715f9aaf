use Rattle.rounded_iter.proofs.table.Table.find_by_guess.Given as goal

abbrev pub ghost-confirm_all : goal.ghost-confirm_all
ghost-confirm_all g a = g.spans

abbrev pub ghost-find_above : goal.ghost-find_above
ghost-find_above g a = g.spans

abbrev pub ghost-start : goal.ghost-start
ghost-start g a = g.spans

abbrev pub ghost-find : goal.ghost-find
ghost-find g a = g.spans
