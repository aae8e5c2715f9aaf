use Rattle.lower_cert.proofs.sweep.exit_at.Given as goal

abbrev pub ghost-table_corner : goal.ghost-table_corner
ghost-table_corner g a = g.spans
