use Rattle.corner_lift.proofs.lifted.Lifted.table_corner.Given as goal

abbrev pub ghost-corner : goal.ghost-corner
ghost-corner g a = g.spans
