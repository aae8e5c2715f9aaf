use Rattle.rounded_iter.proofs.table.Table.confirm_all.Given as goal

abbrev pub ghost-confirm : goal.ghost-confirm
ghost-confirm g a = g.spans
