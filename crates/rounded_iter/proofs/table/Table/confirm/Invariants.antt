use Rattle.rounded_iter.proofs.table.Table.confirm.Given as goal

abbrev pub ghost-climb_noted : goal.ghost-climb_noted
ghost-climb_noted g a = record { spans = g.spans; from = a.lane.now }
