use Rattle.robust_rank.proofs.rows.Rows.rate_of_pair.Given as goal

abbrev pub ghost-least_into_of : goal.ghost-least_into_of
ghost-least_into_of g a = g.spans
