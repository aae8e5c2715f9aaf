use Rattle.robust_rank.proofs.rows.Rows.rate_of_state.Given as goal

abbrev pub ghost-rate_of_row : goal.ghost-rate_of_row
ghost-rate_of_row g a = g.spans

abbrev pub ghost-rate_of_only : goal.ghost-rate_of_only
ghost-rate_of_only g a = g.spans
