use Rattle.corner_lift.proofs.table.table_others.Goals as goal

pub returns-clause-whole : goal.returns-clause-whole
returns-clause-whole g c = rw c.new.ensures at c.others.ensures.whole
